-- Which processes have an exit.
use Rattle.std.proofs.Common.{◌≡◌, ◌∙◌, ℕ, ◌<◌, Bool, false, ◌||◌, List, [], ◌∷◌, ◌++◌, length, map, set, get_or, replicate, refl, sym, ap, arith}
use Rattle.std.proofs.lemmas.Grind.{common_steps}
use Rattle.std.proofs.lemmas.List.{map-set, get_or-map, get_or-replicate, map-append, length-map}
use Rattle.std.proofs.Math.Seq.{map-set_same}
use Rattle.std.specs.Global.{Vec}
use Rattle.k_limits.specs.k_types.declared.op.Op.{Op}
use Rattle.k_limits.specs.k_types.declared.names.Pid.{Pid}
use Rattle.k_limits.specs.k_types.TraceRules.{is_exit}
use Rattle.k_trace.specs.Grown.{has_exit}
use Rattle.k_trace.specs.OperationLists.{AreEnded, OperationLists}

abbrev pub items_of : List (Vec Op) → List (List Op)
items_of ops = map (λ o. o.items) ops

pub has_exit_push : (ops : List Op) (op : Op) → has_exit (ops ++ op ∷ []) ≡ (has_exit ops || is_exit op)
has_exit_push [] op = grind (arith, common_steps)
has_exit_push (o ∷ ops) op = grind (arith, common_steps, has_exit_push ops op)

pub items_of_set : (ops : List (Vec Op)) (p : ℕ) (v : Vec Op) → items_of (set ops p v) ≡ set (items_of ops) p v.items
items_of_set ops p v = map-set (λ (o : Vec Op). o.items) ops p v

pub AreEnded_push : (operations : List (List Op)) (ended : List Bool) (p : ℕ) (op : Op) → p < length operations → length ended ≡ 64 → p < 64 → AreEnded operations ended
    → AreEnded (set operations p (get_or operations p [] ++ op ∷ [])) (set ended p (get_or ended p false || is_exit op))
AreEnded_push operations ended p op lt len few good q below = grind (arith, common_steps, good q below, has_exit_push (get_or operations p []) op, good p few)

-- an element that was read at its place
pub AreEnded_unchanged : (ops : List (Vec Op)) (ended : List Bool) (p : ℕ) (v w : Vec Op) → v ≡ get_or ops p v → w.items ≡ v.items
    → AreEnded (items_of ops) ended → AreEnded (items_of (set ops p w)) ended
AreEnded_unchanged ops ended p v w e same good = rw (map-set_same (λ (o : Vec Op). o.items) ops p w v (same ∙ ap (λ (o : Vec Op). o.items) e)) good

item_at : (ops : List (Vec Op)) (p : ℕ) (v : Vec Op) → p < length ops → v ≡ get_or ops p v → get_or (items_of ops) p [] ≡ v.items
item_at ops p v lt e = get_or-map (λ (o : Vec Op). o.items) ops p v [] lt ∙ ap (λ (o : Vec Op). o.items) (sym e)

pub items_pushed : (ops : List (Vec Op)) (p : ℕ) (v w : Vec Op) (op : Op) → p < length ops → v ≡ get_or ops p v → w.items ≡ v.items ++ op ∷ []
    → items_of (set ops p w) ≡ set (items_of ops) p (get_or (items_of ops) p [] ++ op ∷ [])
items_pushed ops p v w op lt e grown = items_of_set ops p w ∙ ap (λ (x : List Op). set (items_of ops) p x) (grown ∙ ap (λ (x : List Op). x ++ op ∷ []) (sym (item_at ops p v lt e)))

pub AreEnded_pushed : (ops : List (Vec Op)) (ended : List Bool) (p : ℕ) (v w : Vec Op) (op : Op) (now : Bool) → p < length ops → v ≡ get_or ops p v → w.items ≡ v.items ++ op ∷ []
    → length ended ≡ 64 → p < 64 → now ≡ (get_or ended p false || is_exit op) → AreEnded (items_of ops) ended → AreEnded (items_of (set ops p w)) (set ended p now)
AreEnded_pushed ops ended p v w op now lt e grown len few is good =
    let below : p < length (items_of ops) = simp length-map lt in
    let pushed = AreEnded_push (items_of ops) ended p op below len few good in
    rw (items_pushed ops p v w op lt e grown, is) pushed

pub AreEnded_fresh : AreEnded [] (replicate 64 false)
AreEnded_fresh p lt = get_or-replicate 64 p false false lt

pub lists_are : (x y : List (List Op)) (u v : List ℕ) → x ≡ y → u ≡ v → (let a : OperationLists = record { operations = x; order = u } in a) ≡ record { operations = y; order = v }
lists_are x y u v e f = rw (e, f) refl

pub order_pushed : (order new : List Pid) (pid : Pid) → new ≡ order ++ pid ∷ [] → map (λ (q : Pid). q.0) new ≡ map (λ (q : Pid). q.0) order ++ pid.0 ∷ []
order_pushed order new pid e = rw e (map-append (λ (q : Pid). q.0) order (pid ∷ []))
