-- What marking finds: the objects of a pool that pass a test.
use Rattle.std.proofs.Common.{◌≡◌, ℕ, ◌+◌, ◌<◌, ◌&&◌, ◌||◌, not, Bool, true, false, refl, sym, ap, ap₂, ◌∙◌, List, [], ◌∷◌, ◌++◌, map, take, get_or, length, replicate, Option, Some, arith, suc}
use Rattle.std.specs.List.{list_any}
use Rattle.std.proofs.lemmas.Bool.{false≢true, or_parts}
use Rattle.std.proofs.lemmas.List.Folds.{list_any-append, list_any_more}
use Rattle.k_types.specs.declared.names.Name.{Name}
use Rattle.k_types.specs.declared.names.Heap.{Heap}
use Rattle.k_types.specs.Names.{name_eq, heap_eq, leads_to}
use Rattle.k_types.specs.Numbers.{numbers_below}
use Rattle.k_types.specs.Owners.{objects_of, owner_of, user}
use Rattle.k_types.specs.Effects.{exit_stays, open_roots}
use Rattle.k_types.specs.Reach.{has_entry, is_entered, is_held, is_pinned, is_root, reach_in}
use Rattle.k_types.specs.Sound.{IsOrdered}
use Rattle.k_types.specs.State.{ExitItem, Object, State, has, in_registers, refers}
use Rattle.k_types.specs.Trace.{Trace, process_count}
use Rattle.k_types.proofs.Lists.{numbers_push}
use Rattle.k_types.proofs.NameTests.{heap_eq-true}
use Rattle.k_types.proofs.Objects.{has-kept}
use Rattle.k_scan.specs.Marks.{AreMarks, HasFound, IsMarked, is_marked, lengths, sizes_of}
use Rattle.k_scan.proofs.Looks.{or_more, ours_named, visit_other}
use Rattle.k_scan.proofs.Marks.{lists_are}
use Rattle.k_scan.proofs.Reaches.{pool_of}

module _ (xs : List Object) (own : ℕ → Heap) (h : Heap) where
  -- the name of an object that isn't the heap's
  pub found_other : (name : Name) (marks : List (List Bool)) → heap_eq (own name.seg.0) h ≡ false → HasFound xs (objects_of own h xs) (λ n. name_eq name n) marks marks
  found_other name marks other = let looked = visit_other xs own h name marks [] other in record { size = looked.size; marks = looked.marks }

  -- and of one that is
  pub found_own : (name : Name) (old new : List (List Bool)) (fresh : Bool) → heap_eq (own name.seg.0) h ≡ true → IsMarked xs name old new fresh →
      HasFound xs (objects_of own h xs) (λ n. name_eq name n) old new
  found_own name old new fresh ours marked = record {
    size = marked.size;
    marks = λ n. marked.marks n ∙ ap (λ b. is_marked xs old n || b) (ours_named xs own h name ours n);
  }

module _ (xs pool : List Object) where
  -- nothing was looked for
  pub found_none : (test : Name → Bool) (marks : List (List Bool)) → ((n : Name) → test n ≡ false) → HasFound xs pool test marks marks
  found_none test marks none = record {
    size = refl;
    marks = λ n. or_more (is_marked xs marks n) (has pool n) (test n) (λ there t. absurd (false≢true (sym (none n) ∙ t)));
  }

  both : (a p s t : Bool) → ((a || (p && s)) || (p && t)) ≡ (a || (p && (s || t)))
  both true p s t = refl
  both false true s t = refl
  both false false s t = refl

  -- one test after another
  pub found_more : (first then all : Name → Bool) (old now new : List (List Bool)) → ((n : Name) → all n ≡ (first n || then n)) →
      HasFound xs pool first old now → HasFound xs pool then now new → HasFound xs pool all old new
  found_more first then all old now new is a b = record {
    size = b.size ∙ a.size;
    marks = λ n.
        b.marks n
        ∙ ap (λ m. m || (has pool n && then n)) (a.marks n)
        ∙ both (is_marked xs old n) (has pool n) (first n) (then n)
        ∙ ap (λ m. is_marked xs old n || (has pool n && m)) (sym (is n));
  }

  -- the tests alone matter
  pub found_same : (test other : Name → Bool) (old new : List (List Bool)) → ((n : Name) → other n ≡ test n) → HasFound xs pool test old new → HasFound xs pool other old new
  found_same test other old new same found = record {
    size = found.size;
    marks = λ n. found.marks n ∙ ap (λ b. is_marked xs old n || (has pool n && b)) (sym (same n));
  }

-- one exit item more
pub entered_more : (h : Heap) (exits : List ExitItem) (i : ℕ) (e : ExitItem) (n : Name) → i < length exits → e ≡ get_or exits i e →
    has_entry (λ seg. h) (take (i + 1) exits) n ≡ (has_entry (λ seg. h) (take i exits) n || (not (heap_eq e.heap h) && name_eq e.target n))
entered_more h exits i e n inside is =
    list_any_more (λ (x : ExitItem). not (heap_eq x.heap h) && name_eq x.target n) exits i e inside
    ∙ ap (λ (x : ExitItem). has_entry (λ seg. h) (take i exits) n || (not (heap_eq x.heap h) && name_eq x.target n)) (sym is)

pub or_false : (a : Bool) → (a || false) ≡ a
or_false true = refl
or_false false = refl

-- one register more
pub held_more : (registers : List (Option Name)) (i : ℕ) (r : Option Name) (n : Name) → i < length registers → r ≡ get_or registers i r →
    list_any (λ x. leads_to x n) (take (i + 1) registers) ≡ (list_any (λ x. leads_to x n) (take i registers) || leads_to r n)
held_more registers i r n inside is =
    list_any_more (λ x. leads_to x n) registers i r inside
    ∙ ap (λ x. list_any (λ y. leads_to y n) (take i registers) || leads_to x n) (sym is)

-- one process more
pub pinned_more : (h : Heap) (registers : List (List (Option Name))) (p : ℕ) (n : Name) →
    is_pinned (p + 1) (λ seg. h) registers n ≡ (is_pinned p (λ seg. h) registers n || (not (heap_eq (user p) h) && in_registers registers p n))
pinned_more h registers p n =
    let test : ℕ → Bool = λ q. not (heap_eq (user q) h) && in_registers registers q n in
    let one : p + 1 ≡ suc p = omega arith in
    let at : 0 + p ≡ p = omega arith in
    ap (λ k. list_any test (numbers_below k)) one
    ∙ ap (list_any test) (numbers_push 0 p)
    ∙ ap (λ k. list_any test (numbers_below p ++ k ∷ [])) at
    ∙ list_any-append test (numbers_below p) (p ∷ [])
    ∙ ap (λ b. list_any test (numbers_below p) || b) (or_false (test p))

module _ (trace : Trace) (st : State) (h : Heap) where
  abbrev entered : Name → Bool
  entered n = has_entry (λ seg. h) st.exits n

  abbrev pinned : Name → Bool
  pinned n = is_pinned (process_count trace) (λ seg. h) st.registers n

  abbrev held : Name → Bool
  held n = is_held st h n

  -- an object of the heap is a root by one of the three tests
  root_is : (n : Name) → heap_eq (owner_of trace st n.seg.0) h ≡ true → ((entered n || pinned n) || held n) ≡ is_root trace st h n
  unfolding is_entered
  root_is n ours =
      ap (λ g. (list_any (λ (e : ExitItem). not (heap_eq e.heap g) && name_eq e.target n) st.exits || list_any (λ p. not (heap_eq (user p) g) && in_registers st.registers p n) (numbers_below (process_count trace))) || is_held st h n)
      (sym (heap_eq-true (owner_of trace st n.seg.0) h ours))

  three : (p e i d : Bool) → (((false || (p && e)) || (p && i)) || (p && d)) ≡ (p && ((e || i) || d))
  three true e i d = refl
  three false e i d = refl

  -- what the three tests have marked are the roots
  pub roots_marked : (first second third fourth : List (List Bool)) → IsOrdered st.objects → lengths first ≡ sizes_of trace st (Some h) →
      ((n : Name) → is_marked st.objects first n ≡ false) →
      HasFound st.objects (pool_of trace st h) entered first second → HasFound st.objects (pool_of trace st h) pinned second third → HasFound st.objects (pool_of trace st h) held third fourth →
      AreMarks trace st (Some h) fourth (is_root trace st h)
  roots_marked first second third fourth ordered sized clear a b c =
      lists_are trace st (Some h) fourth (is_root trace st h) ordered (c.size ∙ b.size ∙ a.size ∙ sized)
      (λ n own there.
      let ours : has (pool_of trace st h) n ≡ true
      = has-kept (λ m. heap_eq (owner_of trace st m.seg.0) h) st.objects n ∙ ap₂ (λ a b. a && b) there own in
      c.marks n
      ∙ ap (λ m. m || (has (pool_of trace st h) n && held n)) (b.marks n ∙ ap (λ m. m || (has (pool_of trace st h) n && pinned n)) (a.marks n ∙ ap (λ m. m || (has (pool_of trace st h) n && entered n)) (clear n)))
      ∙ three (has (pool_of trace st h) n) (entered n) (pinned n) (held n)
      ∙ ap (λ p. p && ((entered n || pinned n) || held n)) ours
      ∙ root_is n own)

-- where no exit item is the heap's all stay
pub all_stay : (trace : Trace) (st : State) (h : Heap) (exits : List ExitItem) → list_any (λ (x : ExitItem). heap_eq x.heap h) exits ≡ false →
    replicate (length exits) true ≡ map (exit_stays trace st h) exits
unfolding exit_stays
all_stay trace st h [] none = refl
all_stay trace st h (e ∷ exits) none =
    let parts = or_parts (heap_eq e.heap h) (list_any (λ (x : ExitItem). heap_eq x.heap h) exits) none in
    ap₂ (λ b bs. b ∷ bs) (sym (ap (λ b. not b || list_any (λ (x : Object). refers x e.target) (reach_in trace st h (open_roots st h))) parts.0)) (all_stay trace st h exits parts.1)

-- whether an exit item stays
pub other_stays : (trace : Trace) (st : State) (h : Heap) (e : ExitItem) → heap_eq e.heap h ≡ false → exit_stays trace st h e ≡ true
unfolding exit_stays
other_stays trace st h e other = ap (λ b. not b || list_any (λ (x : Object). refers x e.target) (reach_in trace st h (open_roots st h))) other

pub own_stays : (trace : Trace) (st : State) (h : Heap) (e : ExitItem) → heap_eq e.heap h ≡ true →
    exit_stays trace st h e ≡ list_any (λ (x : Object). refers x e.target) (reach_in trace st h (open_roots st h))
unfolding exit_stays
own_stays trace st h e own = ap (λ b. not b || list_any (λ (x : Object). refers x e.target) (reach_in trace st h (open_roots st h))) own
