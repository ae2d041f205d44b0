-- What a reader keeps beside what the lines say.
use Rattle.std.proofs.Common.{◌≡◌, ◌≤◌, Bool, true, false, List, [], ◌∷◌, ◌++◌, length, map, drop, Result, Ok, Err, refl, ap, arith}
use Rattle.std.proofs.lemmas.Grind.{common_steps}
use Rattle.std.proofs.lemmas.List.{map-append, length-map, length-drop}
use Rattle.std.specs.Global.{Vec}
use Rattle.k_limits.specs.k_types.declared.names.Field.{Field}
use Rattle.k_limits.specs.k_types.Types.{HaveFewFields}
use Rattle.k_words.specs.Words.{Text}
use Rattle.k_trace.specs.Named.{NamedTrace}
use Rattle.k_trace.specs.Forms.{op_in, op_of, register_op, bare_op, sharing_op, governing_op}
use Rattle.k_trace.specs.Demands.{demands}
use Rattle.k_trace.specs.Judgement.{field_of, operation_line}
use Rattle.k_trace.specs.declared.reasons.Reason.{Reason}
use Rattle.k_trace.specs.declared.reasons.Reason.TheVariants.{NoForm}

pub few_push : (rows : List (List Field)) (row : List Field) → HaveFewFields rows → length row ≤ 16 → HaveFewFields (rows ++ row ∷ [])
few_push rows row few le ty = grind (arith, common_steps, few ty)

pub few_fields_push : (rows : List (Vec Field)) (v : Vec Field) → HaveFewFields (map (λ r. r.items) rows) → length v.items ≤ 16
    → HaveFewFields (map (λ r. r.items) (rows ++ v ∷ []))
few_fields_push rows v few le = rw (map-append (λ (r : Vec Field). r.items) rows (v ∷ [])) (few_push (map (λ r. r.items) rows) v.items few le)

-- the fields of a line that has no more words than it may
pub few_fields_read : (rows new : List (Vec Field)) (v : Vec Field) (ws : List Text) → HaveFewFields (map (λ r. r.items) rows)
    → v.items ≡ map field_of (drop 2 ws) → length ws ≤ 18 → new ≡ rows ++ v ∷ [] → HaveFewFields (map (λ r. r.items) new)
few_fields_read rows new v ws few read words pushed = rw pushed
    (few_fields_push rows v few (omega (arith, ap length read, length-map (drop 2 ws) field_of, length-drop 2 ws, words)))

-- a good line that demands were made of
pub demands_ok : {A : Type 0} (reason : Reason) (test : Bool) (next : Result A Reason) (d : A) → demands reason test next ≡ Ok d → (test ≡ true) × (next ≡ Ok d)
unfolding demands
demands_ok reason true next d e = (refl, e)
demands_ok reason false next d e = absurd cc

pub ok_is : {A E : Type 0} (c d : A) → (let r : Result A E = Ok c in r) ≡ Ok d → c ≡ d
ok_is c d e = cc

-- a line of one word
pub no_operation : (t : NamedTrace) (ws : List Text) (w : Text) → ws ≡ w ∷ [] → operation_line t ws ≡ Err NoForm
unfolding operation_line op_in op_of register_op bare_op sharing_op governing_op demands
no_operation t ws w e = rw e refl
