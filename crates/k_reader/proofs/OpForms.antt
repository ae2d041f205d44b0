-- The forms of an operation and its spelling.
use Rattle.std.proofs.Common.{◌≡◌, ◌∙◌, ℕ, ◌≤◌, ◌^◌, Bool, true, false, cond, ◌&&◌, eqb, ltb, List, [], ◌∷◌, length, drop, get_or, Result, Ok, Err, refl, sym, ap, subst, arith, codes}
use Rattle.std.proofs.lemmas.Bool.{lt-ltb, eqb-true}
use Rattle.k_limits.specs.k_types.declared.op.Op.{Op}
use Rattle.k_limits.specs.k_types.declared.op.Op.TheVariants.{Collect, KCollect, Exit}
use Rattle.k_limits.specs.k_types.Steps.{in_range}
use Rattle.k_limits.specs.k_types.TraceRules.{is_spelled}
use Rattle.k_words.specs.Words.{Text, word_at}
use Rattle.k_words.specs.Numbers.{is_below, value, is_register, register}
use Rattle.k_words.specs.Names.{declares, number_of}
use Rattle.k_words.proofs.Spelled.{both, same, name_at, number_word, register_is}
use Rattle.k_trace.specs.Named.{NamedTrace}
use Rattle.k_trace.specs.Spelling.{op_words}
use Rattle.k_trace.specs.Demands.{demands}
use Rattle.k_trace.specs.Forms.{form, new_form, knew_form, snew_form, store_form, load_form, move_form, drop_form, dir_form, put_form, get_form, share_form, freeze_form, attach_form, kill_form, resize_form, bare_form, has_verb, governing_op, sharing_op, bare_op, register_op, op_of}
use Rattle.k_trace.proofs.Pushed.{number_below}
use Rattle.k_reader.proofs.Readers.{demands_ok, ok_is}
use Rattle.k_trace.specs.declared.reasons.Reason.{Reason}
use Rattle.k_trace.specs.declared.reasons.Reason.TheVariants.{NoForm, NoNumber, Undeclared}

pub one : (ws : List Text) → length ws ≡ 1 → ws ≡ word_at ws 0 ∷ []
one (a ∷ []) e = refl
one _ e = absurd cc

pub two : (ws : List Text) → length ws ≡ 2 → ws ≡ word_at ws 0 ∷ word_at ws 1 ∷ []
two (a ∷ b ∷ []) e = refl
two _ e = absurd cc

pub three : (ws : List Text) → length ws ≡ 3 → ws ≡ word_at ws 0 ∷ word_at ws 1 ∷ word_at ws 2 ∷ []
three (a ∷ b ∷ c ∷ []) e = refl
three _ e = absurd cc

pub four : (ws : List Text) → length ws ≡ 4 → ws ≡ word_at ws 0 ∷ word_at ws 1 ∷ word_at ws 2 ∷ word_at ws 3 ∷ []
four (a ∷ b ∷ c ∷ d ∷ []) e = refl
four _ e = absurd cc

pub five : (ws : List Text) → length ws ≡ 5 → ws ≡ word_at ws 0 ∷ word_at ws 1 ∷ word_at ws 2 ∷ word_at ws 3 ∷ word_at ws 4 ∷ []
five (a ∷ b ∷ c ∷ d ∷ e ∷ []) h = refl
five _ h = absurd cc

-- what a form that was met says
pub record IsMet (ws : List Text) (count : ℕ) (fits known : Bool) : Type 0 where
  pub counted : length ws ≡ count
  pub in_form : fits ≡ true
  pub declared : known ≡ true

pub form_met : (ws : List Text) (count : ℕ) (fits known : Bool) (made op : Op) → form ws count fits known made ≡ Ok op → IsMet ws count fits known × (made ≡ op)
form_met ws count fits known made op e =
    let a = demands_ok NoForm (eqb (length ws) count) (demands NoNumber fits (demands Undeclared known (Ok made))) op e in
    let b = demands_ok NoNumber fits (demands Undeclared known (Ok made)) op a.1 in
    let c = demands_ok Undeclared known (Ok made) op b.1 in
    (record { counted = eqb-true _ _ a.0; in_form = b.0; declared = c.0 }, ok_is made op c.1)

-- the operation is spelled so, and names what is declared
pub record IsFound (t : NamedTrace) (ws : List Text) (op : Op) : Type 0 where
  pub words : op_words t.names op ≡ ws
  pub in_range : in_range t.trace op ≡ true
  pub spelled : is_spelled op ≡ true

-- a name for each type, limit, process and shared heap
pub record AreNamed (t : NamedTrace) : Type 0 where
  pub types : length t.names.types ≡ length t.trace.types
  pub limits : length t.names.limits ≡ length t.trace.limits
  pub procs : length t.names.procs ≡ length t.trace.procs
  pub shared : length t.names.shared ≡ t.trace.shared_heaps

abbrev pub Finds : NamedTrace → List Text → Result Op Reason → Type 0
Finds t ws found = (op : Op) → found ≡ Ok op → IsFound t ws op

type_below : (t : NamedTrace) (w : Text) → AreNamed t → declares t.names.types w ≡ true → ltb (number_of t.names.types w) (length t.trace.types) ≡ true
type_below t w named h = lt-ltb _ _ (rw (← named.types) (number_below t.names.types w h))

limit_below : (t : NamedTrace) (w : Text) → AreNamed t → declares t.names.limits w ≡ true → ltb (number_of t.names.limits w) (length t.trace.limits) ≡ true
limit_below t w named h = lt-ltb _ _ (rw (← named.limits) (number_below t.names.limits w h))

proc_below : (t : NamedTrace) (w : Text) → AreNamed t → declares t.names.procs w ≡ true → ltb (number_of t.names.procs w) (length t.trace.procs) ≡ true
proc_below t w named h = lt-ltb _ _ (rw (← named.procs) (number_below t.names.procs w h))

shared_below : (t : NamedTrace) (w : Text) → AreNamed t → declares t.names.shared w ≡ true → ltb (number_of t.names.shared w) t.trace.shared_heaps ≡ true
shared_below t w named h = lt-ltb _ _ (rw (← named.shared) (number_below t.names.shared w h))

register_below : (w : Text) → is_register w ≡ true → ltb (register w) 16 ≡ true
register_below w h = lt-ltb _ _ (number_word 16 (drop 1 w) (omega arith) (both (eqb (get_or w 0 0) 114) (is_below 16 (drop 1 w)) h).1).1

number_fits : (w : Text) (bound : ℕ) → bound ≤ 2 ^ 64 → is_below bound w ≡ true → ltb (value w) bound ≡ true
number_fits w bound le h = lt-ltb _ _ (number_word bound w le h).1

verb_is : (ws : List Text) (verb : Text) → has_verb ws verb ≡ true → word_at ws 0 ≡ verb
verb_is ws verb h = same (word_at ws 0) verb h

new_found : (t : NamedTrace) (ws : List Text) → AreNamed t → has_verb ws (codes "new") ≡ true → Finds t ws (new_form t.names ws)
unfolding new_form op_words in_range
new_found t ws named verb op e =
    let m = form_met ws 3 (is_register (word_at ws 1)) (declares t.names.types (word_at ws 2)) _ op e in
    subst (IsFound t ws) m.1 (record {
      words = rw (register_is (word_at ws 1) m.0.in_form, name_at t.names.types (word_at ws 2) m.0.declared, ← verb_is ws (codes "new") verb) (sym (three ws m.0.counted));
      in_range = rw (register_below (word_at ws 1) m.0.in_form, type_below t (word_at ws 2) named m.0.declared) refl;
      spelled = refl;
    })

knew_found : (t : NamedTrace) (ws : List Text) → AreNamed t → has_verb ws (codes "knew") ≡ true → Finds t ws (knew_form t.names ws)
unfolding knew_form op_words in_range
knew_found t ws named verb op e =
    let m = form_met ws 3 (is_register (word_at ws 1)) (declares t.names.types (word_at ws 2)) _ op e in
    subst (IsFound t ws) m.1 (record {
      words = rw (register_is (word_at ws 1) m.0.in_form, name_at t.names.types (word_at ws 2) m.0.declared, ← verb_is ws (codes "knew") verb) (sym (three ws m.0.counted));
      in_range = rw (register_below (word_at ws 1) m.0.in_form, type_below t (word_at ws 2) named m.0.declared) refl;
      spelled = refl;
    })

snew_found : (t : NamedTrace) (ws : List Text) → AreNamed t → has_verb ws (codes "snew") ≡ true → Finds t ws (snew_form t.names ws)
unfolding snew_form op_words in_range
snew_found t ws named verb op e =
    let m = form_met ws 4 (is_register (word_at ws 1)) (declares t.names.shared (word_at ws 2) && declares t.names.types (word_at ws 3)) _ op e in
    let k = both (declares t.names.shared (word_at ws 2)) (declares t.names.types (word_at ws 3)) m.0.declared in
    subst (IsFound t ws) m.1 (record {
      words = rw (register_is (word_at ws 1) m.0.in_form, name_at t.names.shared (word_at ws 2) k.0, name_at t.names.types (word_at ws 3) k.1, ← verb_is ws (codes "snew") verb) (sym (four ws m.0.counted));
      in_range = rw (register_below (word_at ws 1) m.0.in_form, shared_below t (word_at ws 2) named k.0, type_below t (word_at ws 3) named k.1) refl;
      spelled = refl;
    })

store_found : (t : NamedTrace) (ws : List Text) → AreNamed t → has_verb ws (codes "store") ≡ true → Finds t ws (store_form ws)
unfolding store_form op_words in_range
store_found t ws named verb op e =
    let m = form_met ws 4 (is_register (word_at ws 1) && is_below 16 (word_at ws 2) && is_register (word_at ws 3)) (true) _ op e in
    let p = both (is_register (word_at ws 1) && is_below 16 (word_at ws 2)) (is_register (word_at ws 3)) m.0.in_form in
    let q = both (is_register (word_at ws 1)) (is_below 16 (word_at ws 2)) p.0 in
    subst (IsFound t ws) m.1 (record {
      words = rw (register_is (word_at ws 1) q.0, (number_word 16 (word_at ws 2) (omega arith) q.1).0, register_is (word_at ws 3) p.1, ← verb_is ws (codes "store") verb) (sym (four ws m.0.counted));
      in_range = rw (register_below (word_at ws 1) q.0, register_below (word_at ws 3) p.1) refl;
      spelled = rw (number_fits (word_at ws 2) 16 (omega arith) q.1) refl;
    })

load_found : (t : NamedTrace) (ws : List Text) → AreNamed t → has_verb ws (codes "load") ≡ true → Finds t ws (load_form ws)
unfolding load_form op_words in_range
load_found t ws named verb op e =
    let m = form_met ws 4 (is_register (word_at ws 1) && is_register (word_at ws 2) && is_below 16 (word_at ws 3)) (true) _ op e in
    let p = both (is_register (word_at ws 1) && is_register (word_at ws 2)) (is_below 16 (word_at ws 3)) m.0.in_form in
    let q = both (is_register (word_at ws 1)) (is_register (word_at ws 2)) p.0 in
    subst (IsFound t ws) m.1 (record {
      words = rw (register_is (word_at ws 1) q.0, register_is (word_at ws 2) q.1, (number_word 16 (word_at ws 3) (omega arith) p.1).0, ← verb_is ws (codes "load") verb) (sym (four ws m.0.counted));
      in_range = rw (register_below (word_at ws 1) q.0, register_below (word_at ws 2) q.1) refl;
      spelled = rw (number_fits (word_at ws 3) 16 (omega arith) p.1) refl;
    })

move_found : (t : NamedTrace) (ws : List Text) → AreNamed t → has_verb ws (codes "move") ≡ true → Finds t ws (move_form ws)
unfolding move_form op_words in_range
move_found t ws named verb op e =
    let m = form_met ws 3 (is_register (word_at ws 1) && is_register (word_at ws 2)) (true) _ op e in
    let p = both (is_register (word_at ws 1)) (is_register (word_at ws 2)) m.0.in_form in
    subst (IsFound t ws) m.1 (record {
      words = rw (register_is (word_at ws 1) p.0, register_is (word_at ws 2) p.1, ← verb_is ws (codes "move") verb) (sym (three ws m.0.counted));
      in_range = rw (register_below (word_at ws 1) p.0, register_below (word_at ws 2) p.1) refl;
      spelled = refl;
    })

drop_found : (t : NamedTrace) (ws : List Text) → AreNamed t → has_verb ws (codes "drop") ≡ true → Finds t ws (drop_form ws)
unfolding drop_form op_words in_range
drop_found t ws named verb op e =
    let m = form_met ws 2 (is_register (word_at ws 1)) (true) _ op e in
    subst (IsFound t ws) m.1 (record {
      words = rw (register_is (word_at ws 1) m.0.in_form, ← verb_is ws (codes "drop") verb) (sym (two ws m.0.counted));
      in_range = rw (register_below (word_at ws 1) m.0.in_form) refl;
      spelled = refl;
    })

dir_found : (t : NamedTrace) (ws : List Text) → AreNamed t → has_verb ws (codes "dir") ≡ true → Finds t ws (dir_form ws)
unfolding dir_form op_words in_range
dir_found t ws named verb op e =
    let m = form_met ws 2 (is_register (word_at ws 1)) (true) _ op e in
    subst (IsFound t ws) m.1 (record {
      words = rw (register_is (word_at ws 1) m.0.in_form, ← verb_is ws (codes "dir") verb) (sym (two ws m.0.counted));
      in_range = rw (register_below (word_at ws 1) m.0.in_form) refl;
      spelled = refl;
    })

put_found : (t : NamedTrace) (ws : List Text) → AreNamed t → has_verb ws (codes "put") ≡ true → Finds t ws (put_form ws)
unfolding put_form op_words in_range
put_found t ws named verb op e =
    let m = form_met ws 4 (is_register (word_at ws 1) && is_below 16 (word_at ws 2) && is_below (2 ^ 64) (word_at ws 3)) (true) _ op e in
    let p = both (is_register (word_at ws 1) && is_below 16 (word_at ws 2)) (is_below (2 ^ 64) (word_at ws 3)) m.0.in_form in
    let q = both (is_register (word_at ws 1)) (is_below 16 (word_at ws 2)) p.0 in
    subst (IsFound t ws) m.1 (record {
      words = rw (register_is (word_at ws 1) q.0, (number_word 16 (word_at ws 2) (omega arith) q.1).0, (number_word (2 ^ 64) (word_at ws 3) (omega arith) p.1).0, ← verb_is ws (codes "put") verb) (sym (four ws m.0.counted));
      in_range = rw (register_below (word_at ws 1) q.0) refl;
      spelled = rw (number_fits (word_at ws 2) 16 (omega arith) q.1, number_fits (word_at ws 3) (2 ^ 64) (omega arith) p.1) refl;
    })

get_found : (t : NamedTrace) (ws : List Text) → AreNamed t → has_verb ws (codes "get") ≡ true → Finds t ws (get_form ws)
unfolding get_form op_words in_range
get_found t ws named verb op e =
    let m = form_met ws 3 (is_register (word_at ws 1) && is_below 16 (word_at ws 2)) (true) _ op e in
    let p = both (is_register (word_at ws 1)) (is_below 16 (word_at ws 2)) m.0.in_form in
    subst (IsFound t ws) m.1 (record {
      words = rw (register_is (word_at ws 1) p.0, (number_word 16 (word_at ws 2) (omega arith) p.1).0, ← verb_is ws (codes "get") verb) (sym (three ws m.0.counted));
      in_range = rw (register_below (word_at ws 1) p.0) refl;
      spelled = rw (number_fits (word_at ws 2) 16 (omega arith) p.1) refl;
    })

share_found : (t : NamedTrace) (ws : List Text) → AreNamed t → has_verb ws (codes "share") ≡ true → Finds t ws (share_form t.names ws)
unfolding share_form op_words in_range
share_found t ws named verb op e =
    let m = form_met ws 2 (true) (declares t.names.shared (word_at ws 1)) _ op e in
    subst (IsFound t ws) m.1 (record {
      words = rw (name_at t.names.shared (word_at ws 1) m.0.declared, ← verb_is ws (codes "share") verb) (sym (two ws m.0.counted));
      in_range = rw (shared_below t (word_at ws 1) named m.0.declared) refl;
      spelled = refl;
    })

freeze_found : (t : NamedTrace) (ws : List Text) → AreNamed t → has_verb ws (codes "freeze") ≡ true → Finds t ws (freeze_form t.names ws)
unfolding freeze_form op_words in_range
freeze_found t ws named verb op e =
    let m = form_met ws 3 (is_register (word_at ws 2)) (declares t.names.shared (word_at ws 1)) _ op e in
    subst (IsFound t ws) m.1 (record {
      words = rw (register_is (word_at ws 2) m.0.in_form, name_at t.names.shared (word_at ws 1) m.0.declared, ← verb_is ws (codes "freeze") verb) (sym (three ws m.0.counted));
      in_range = rw (register_below (word_at ws 2) m.0.in_form, shared_below t (word_at ws 1) named m.0.declared) refl;
      spelled = refl;
    })

attach_found : (t : NamedTrace) (ws : List Text) → AreNamed t → has_verb ws (codes "attach") ≡ true → Finds t ws (attach_form t.names ws)
unfolding attach_form op_words in_range
attach_found t ws named verb op e =
    let m = form_met ws 3 (is_register (word_at ws 1)) (declares t.names.shared (word_at ws 2)) _ op e in
    subst (IsFound t ws) m.1 (record {
      words = rw (register_is (word_at ws 1) m.0.in_form, name_at t.names.shared (word_at ws 2) m.0.declared, ← verb_is ws (codes "attach") verb) (sym (three ws m.0.counted));
      in_range = rw (register_below (word_at ws 1) m.0.in_form, shared_below t (word_at ws 2) named m.0.declared) refl;
      spelled = refl;
    })

kill_found : (t : NamedTrace) (ws : List Text) → AreNamed t → has_verb ws (codes "kill") ≡ true → Finds t ws (kill_form t.names ws)
unfolding kill_form op_words in_range
kill_found t ws named verb op e =
    let m = form_met ws 2 (true) (declares t.names.procs (word_at ws 1)) _ op e in
    subst (IsFound t ws) m.1 (record {
      words = rw (name_at t.names.procs (word_at ws 1) m.0.declared, ← verb_is ws (codes "kill") verb) (sym (two ws m.0.counted));
      in_range = rw (proc_below t (word_at ws 1) named m.0.declared) refl;
      spelled = refl;
    })

resize_found : (t : NamedTrace) (ws : List Text) → AreNamed t → has_verb ws (codes "resize") ≡ true → Finds t ws (resize_form t.names ws)
unfolding resize_form op_words in_range
resize_found t ws named verb op e =
    let m = form_met ws 3 (is_below (2 ^ 40) (word_at ws 2)) (declares t.names.limits (word_at ws 1)) _ op e in
    subst (IsFound t ws) m.1 (record {
      words = rw (name_at t.names.limits (word_at ws 1) m.0.declared, (number_word (2 ^ 40) (word_at ws 2) (omega arith) m.0.in_form).0, ← verb_is ws (codes "resize") verb) (sym (three ws m.0.counted));
      in_range = rw (limit_below t (word_at ws 1) named m.0.declared, number_fits (word_at ws 2) (2 ^ 40) (omega arith) m.0.in_form) refl;
      spelled = rw (number_fits (word_at ws 2) (2 ^ 40) (omega arith) m.0.in_form) refl;
    })

bare_found : (t : NamedTrace) (ws : List Text) (made : Op) (verb : Text) → op_words t.names made ≡ verb ∷ [] → in_range t.trace made ≡ true → is_spelled made ≡ true
    → has_verb ws verb ≡ true → Finds t ws (bare_form ws made)
bare_found t ws made verb spelled ranged fit has op e =
    let m = form_met ws 1 true true made op e in
    subst (IsFound t ws) m.1 (record { words = spelled ∙ ap (λ (w : Text). w ∷ []) (sym (verb_is ws verb has)) ∙ sym (one ws m.0.counted); in_range = ranged; spelled = fit })

-- one of two forms was met
either : (t : NamedTrace) (ws : List Text) (test : Bool) (a b : Result Op Reason) → (test ≡ true → Finds t ws a) → Finds t ws b → Finds t ws (cond test a b)
either t ws true a b f g = f refl
either t ws false a b f g = g

none_found : (t : NamedTrace) (ws : List Text) → Finds t ws (Err NoForm)
none_found t ws op e = absurd cc

governing_found : (t : NamedTrace) (ws : List Text) → AreNamed t → Finds t ws (governing_op t.names ws)
unfolding governing_op
governing_found t ws named =
    either t ws (has_verb ws (codes "kill")) _ _ (kill_found t ws named)
    (either t ws (has_verb ws (codes "resize")) _ _ (resize_found t ws named) (none_found t ws))

sharing_found : (t : NamedTrace) (ws : List Text) → AreNamed t → Finds t ws (sharing_op t.names ws)
unfolding sharing_op
sharing_found t ws named =
    either t ws (has_verb ws (codes "snew")) _ _ (snew_found t ws named)
    (either t ws (has_verb ws (codes "share")) _ _ (share_found t ws named)
    (either t ws (has_verb ws (codes "freeze")) _ _ (freeze_found t ws named)
    (either t ws (has_verb ws (codes "attach")) _ _ (attach_found t ws named) (governing_found t ws named))))

bare_op_found : (t : NamedTrace) (ws : List Text) → AreNamed t → Finds t ws (bare_op t.names ws)
unfolding bare_op op_words in_range
bare_op_found t ws named =
    either t ws (has_verb ws (codes "collect")) _ _ (bare_found t ws Collect (codes "collect") refl refl refl)
    (either t ws (has_verb ws (codes "kcollect")) _ _ (bare_found t ws KCollect (codes "kcollect") refl refl refl)
    (either t ws (has_verb ws (codes "exit")) _ _ (bare_found t ws Exit (codes "exit") refl refl refl) (sharing_found t ws named)))

register_op_found : (t : NamedTrace) (ws : List Text) → AreNamed t → Finds t ws (register_op t.names ws)
unfolding register_op
register_op_found t ws named =
    either t ws (has_verb ws (codes "move")) _ _ (move_found t ws named)
    (either t ws (has_verb ws (codes "drop")) _ _ (drop_found t ws named)
    (either t ws (has_verb ws (codes "dir")) _ _ (dir_found t ws named)
    (either t ws (has_verb ws (codes "put")) _ _ (put_found t ws named)
    (either t ws (has_verb ws (codes "get")) _ _ (get_found t ws named) (bare_op_found t ws named)))))

-- an operation that was read is spelled so
pub op_found : (t : NamedTrace) (ws : List Text) → AreNamed t → Finds t ws (op_of t.names ws)
unfolding op_of
op_found t ws named =
    either t ws (has_verb ws (codes "new")) _ _ (new_found t ws named)
    (either t ws (has_verb ws (codes "knew")) _ _ (knew_found t ws named)
    (either t ws (has_verb ws (codes "store")) _ _ (store_found t ws named)
    (either t ws (has_verb ws (codes "load")) _ _ (load_found t ws named) (register_op_found t ws named))))
