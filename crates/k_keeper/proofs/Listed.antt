-- The names of what a collection freed are no more than the objects that there were before.
use Rattle.std.proofs.Common.{◌≡◌, ◌≤◌, ◌+◌, ℕ, Bool, true, false, cond, not, ◌||◌, ◌&&◌, refl, sym, ap, ap₂, ◌∙◌, subst, List, [], ◌∷◌, ◌++◌, length, filter, inl, inr, arith, zero-le, Result, Ok, Err, OnErr, OnOk}
use Rattle.std.specs.Prelude.{IfOk}
use Rattle.std.proofs.lemmas.Bool.{cases_Bool}
use Rattle.std.proofs.lemmas.List.{length-append}
use Rattle.std.proofs.lemmas.List.Sums.{sum_by-cons}
use Rattle.k_types.specs.declared.event.Event.{Event}
use Rattle.k_types.specs.declared.names.Name.{Name}
use Rattle.k_types.specs.declared.names.Pid.{Pid}
use Rattle.k_types.specs.Names.{name_eq}
use Rattle.k_types.specs.State.{Object, has}
use Rattle.k_types.specs.Steps.{IsLegalHistory, state_after}
use Rattle.k_types.specs.Trace.{Trace}
use Rattle.k_types.proofs.NameTests.{name_eq-true, name_eq_refl}
use Rattle.k_host.specs.Calls.{HasCollectedIn, HasCollectedKernelIn}
use Rattle.k_host.specs.HostError.{HostError}
use Rattle.k_host.specs.Hosts.{HostServes, HostValue}
use Rattle.k_host.specs.Listening.{FreedNames, times}
use Rattle.k_host.specs.Whole.{AreFreedLast}
use Rattle.k_host.specs.k_guests.Objects.{gone_by, made_by, objects_after}
use Rattle.k_keeper.specs.Keeping.{objects_in}
use Rattle.k_keeper.proofs.Counted.{Counts, collected_counts, end_makes_none, kernel_counts, one_more}

-- how often the name stands among these, counted from the front
abbrev tally : Name → List Name → ℕ
tally n [] = 0
tally n (m ∷ ms) = cond (name_eq m n) 1 0 + tally n ms

times_tally : (n : Name) (ms : List Name) → times n ms ≡ tally n ms
times_tally n [] = refl
times_tally n (m ∷ ms) = sum_by-cons (λ x. cond (name_eq x n) 1 0) m ms ∙ ap (λ k. cond (name_eq m n) 1 0 + k) (times_tally n ms)

abbrev without : Name → List Name → List Name
without n ms = filter (λ m. not (name_eq m n)) ms

length_without : (n : Name) (ms : List Name) → length ms ≡ length (without n ms) + tally n ms
length_without n [] = refl
length_without n (m ∷ ms) = grind (arith, length_without n ms)

-- the name itself is not left, and another one is left as often
tally_gone : (n : Name) (ms : List Name) → tally n (without n ms) ≡ 0
tally_gone n [] = refl
tally_gone n (m ∷ ms) = grind (arith, tally_gone n ms)

tally_left : (n k : Name) (ms : List Name) → name_eq n k ≡ false → tally k (without n ms) ≡ tally k ms
tally_left n k [] apart = refl
tally_left n k (m ∷ ms) apart = elim (cases_Bool (name_eq m n)) [
  | inl is ↦
      let same : name_eq m k ≡ false = ap (λ (x : Name). name_eq x k) (name_eq-true m n is) ∙ apart in
      let rest = tally_left n k ms apart in
      grind (arith, is, same, rest)
  | inr isnt ↦ let rest = tally_left n k ms apart in grind (arith, isnt, rest)
]

one_at_most : (b : Bool) → cond b 1 0 ≤ 1
one_at_most true = omega arith
one_at_most false = zero-le

-- names of which each is that of an object, and none stands twice
module _ (o : Object) (os : List Object) (ms : List Name) (each : (n : Name) → tally n ms ≤ cond (has (o ∷ os) n) 1 0) where
  left_each : (n : Name) → tally n (without o.name ms) ≤ cond (has os n) 1 0
  left_each n = elim (cases_Bool (name_eq o.name n)) [
    | inl is ↦
        let same : tally n (without o.name ms) ≡ 0 = ap (λ (x : Name). tally n (without x ms)) (name_eq-true o.name n is) ∙ tally_gone n ms in
        omega (arith, same)
    | inr isnt ↦
        let same = tally_left o.name n ms isnt in
        let once : tally n ms ≤ cond (has os n) 1 0 = subst (λ b. tally n ms ≤ cond (b || has os n) 1 0) isnt (each n) in
        omega (arith, same, once)
  ]

  first_once : tally o.name ms ≤ 1
  first_once = let once = each o.name in let low = one_at_most (has (o ∷ os) o.name) in omega (arith, once, low)

pub no_more : (os : List Object) (ms : List Name) → ((n : Name) → tally n ms ≤ cond (has os n) 1 0) → length ms ≤ length os
no_more [] [] each = zero-le
no_more [] (m ∷ ms) each =
    let some : tally m (m ∷ ms) ≡ 1 + tally m ms = ap (λ b. cond b 1 0 + tally m ms) (name_eq_refl m) in
    let none = each m in
    absurd (omega (arith, some, none))
no_more (o ∷ os) ms each =
    let rest = no_more os (without o.name ms) (left_each o os ms each) in
    let whole = length_without o.name ms in
    let once = first_once o os ms each in
    omega (arith, rest, whole, once)

gone_low : (a b : Bool) → cond (a && not b) 1 0 ≤ cond a 1 0
gone_low true true = zero-le
gone_low true false = omega arith
gone_low false b = zero-le

-- what was freed by the last event is no more than there was before it
pub freed_few : (trace : Trace) (history : List Event) (names : List Name) (f : AreFreedLast trace history names) → length names ≤ objects_after trace f.before
freed_few trace history names f =
    no_more (state_after trace f.before).objects names (λ n.
    let told = sym (times_tally n names) ∙ f.once n in
    let low = gone_low (has (state_after trace f.before).objects n) (has (state_after trace history).objects n) in
    omega (arith, told, low))

-- what stands before the last event, and that event
both_ends : {A : Type 0} (xs ys : List A) (x y : A) → xs ++ x ∷ [] ≡ ys ++ y ∷ [] → (xs ≡ ys) × (x ≡ y)
both_ends [] [] x y e = (refl, cc e)
both_ends [] (b ∷ ys) x y e = let more = length-append ys (y ∷ []) in let same = ap length e in absurd (omega (arith, more, same))
both_ends (a ∷ xs) [] x y e = let more = length-append xs (x ∷ []) in let same = ap length e in absurd (omega (arith, more, same))
both_ends {A = A} (a ∷ xs) (b ∷ ys) x y e =
    let first : a ≡ b = cc e in
    let rest : xs ++ x ∷ [] ≡ ys ++ y ∷ [] = cc e in
    let ends = both_ends xs ys x y rest in
    (ap₂ (λ (c : A) (cs : List A). c ∷ cs) first ends.0, ends.1)

module _ (h n : HostValue) (serves_then : HostServes n) (event : Event) (none : made_by event ≡ 0) (counts : Counts h n event) (xs : List Event) (journal : n.book.journal.list ≡ xs ++ event ∷ []) where
  named_few : (names : List Name) → AreFreedLast n.basis.trace n.book.journal.list names → length names ≤ objects_in h
  named_few names f =
      let ends = both_ends f.before xs f.last event (sym f.history_is ∙ journal) in
      let few = freed_few n.basis.trace n.book.journal.list names f in
      let legal = subst (IsLegalHistory n.basis.trace) f.history_is serves_then.rest.book.stands.agrees.legal in
      let more = one_more n.basis.trace f.before f.last legal in
      let whole : objects_in n ≡ objects_after n.basis.trace (f.before ++ f.last ∷ []) = ap (objects_after n.basis.trace) f.history_is in
      let gone : gone_by f.last ≡ gone_by event = ap gone_by ends.1 in
      let made : made_by f.last ≡ made_by event = ap made_by ends.1 in
      omega (arith, few, more, whole, gone, made, none, counts)

-- after a collection there are no more names than there can be objects; where none is done they stay
module _ (h n : HostValue) (objects most : ℕ) (counted : objects_in h ≡ objects) (listed : objects ≤ most) (serves : HostServes h) (serves_then : HostServes n) (old new : FreedNames) (named : length old.names ≤ most) where
  names_stay : new ≡ old → length new.names ≤ most
  names_stay same = subst (λ (f : FreedNames). length f.names ≤ most) (sym same) named

  pub collect_named : (pid : Pid) (r : Result Event HostError) → IfOk r (λ event. HasCollectedIn h n pid event) → OnErr r (new ≡ old) → OnOk r (AreFreedLast n.basis.trace n.book.journal.list new.names) → length new.names ≤ most
  collect_named pid (Err why) done kept freed = names_stay kept
  collect_named pid (Ok event) done kept freed =
      let few = named_few h n serves_then event (end_makes_none _ event done.way.is_end) (collected_counts h n serves serves_then (ap (λ (x : HostValue). x.basis) done.host_is) pid event done) _ done.way.journal new.names freed in
      omega (arith, few, counted, listed)

  pub kernel_named : (pid : Pid) (r : Result Event HostError) → IfOk r (λ event. HasCollectedKernelIn h n pid event) → OnErr r (new ≡ old) → OnOk r (AreFreedLast n.basis.trace n.book.journal.list new.names) → length new.names ≤ most
  kernel_named pid (Err why) done kept freed = names_stay kept
  kernel_named pid (Ok event) done kept freed =
      let few = named_few h n serves_then event (end_makes_none _ event done.way.is_end) (kernel_counts h n serves serves_then (ap (λ (x : HostValue). x.basis) done.host_is) pid event done) _ done.way.journal new.names freed in
      omega (arith, few, counted, listed)
