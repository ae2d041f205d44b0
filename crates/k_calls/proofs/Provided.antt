-- The body of the object that an operation makes is there, or it is made.
use Rattle.std.proofs.Common.{◌≡◌, ℕ, zero, suc, ◌-◌, ◌<◌, ◌==◌, ◌&&◌, OnOk, Result, Ok, Err, sym, ap, ap₂, ◌∙◌, List, ◌∷◌, ◌++◌, length, replicate, arith, nat_lt, ltb-true, ltb-false, eq-eqb, eqb-true, IfSome, IsTrue, Option, Some, None, inl, inr}
use Rattle.std.specs.Bool.{⊤}
use Rattle.std.proofs.lemmas.Bool.{and_parts, cases_Bool}
use Rattle.k_types.specs.Bounds.{register_count}
use Rattle.k_types.specs.declared.names.TypeId.{TypeId}
use Rattle.k_types.specs.declared.op.Op.{Op}
use Rattle.k_types.specs.declared.op.Op.TheVariants.{New, KNew, SNew}
use Rattle.k_types.specs.Steps.{in_range}
use Rattle.k_operate.specs.k_process.Bodies.{type_made}
use Rattle.k_laws.specs.Counts.{one_if}
use Rattle.k_space.specs.Objects.{BodyValue, new_body}
use Rattle.k_guests.specs.declared.guest.Guest.{Guest}
use Rattle.k_guests.specs.Serving.{Basis, supply_of}
use Rattle.k_calls.specs.declared.errors.HostError.{HostError}
use Rattle.k_calls.specs.Doing.{body_made, is_of, provided_for}

-- an operation that names what the setup declares makes an object of a declared type
pub typed : (basis : Basis) (op : Op) → IsTrue (in_range basis.trace op) → IfSome (type_made op) (λ ty. ty.0 < length basis.trace.types)
unfolding in_range
typed basis (New r ty) known = ltb-true ty.0 (length basis.trace.types) (and_parts (nat_lt r.0 register_count) (nat_lt ty.0 (length basis.trace.types)) known).1
typed basis (KNew r ty) known = ltb-true ty.0 (length basis.trace.types) (and_parts (nat_lt r.0 register_count) (nat_lt ty.0 (length basis.trace.types)) known).1
typed basis (SNew r s ty) known = ltb-true ty.0 (length basis.trace.types) (and_parts (nat_lt r.0 register_count && nat_lt s.0 basis.trace.shared_heaps) (nat_lt ty.0 (length basis.trace.types)) known).1
typed basis _ known = tt

replicate_one_more : {A : Type 0} (n : ℕ) (x : A) → 0 < n → replicate n x ≡ x ∷ replicate (n - 1) x
replicate_one_more zero x some = absurd (omega (arith, some))
replicate_one_more (suc n) x some = ap (λ k. x ∷ replicate k x) (omega arith)

-- the process that is provided with the body of an object of that type
abbrev provided_by : Basis → Option TypeId → Guest → Guest
provided_by basis made g = record {
  cell = record g.cell { bodies = body_made basis.trace.types made ++ supply_of basis (g.bodies - one_if (is_of basis made)) };
  bodies = g.bodies - one_if (is_of basis made);
}

module _ (basis : Basis) (op : Op) (g : Guest) (stock : g.cell.bodies ≡ supply_of basis g.bodies) where
  abbrev changed : List BodyValue → ℕ → Guest
  changed bodies n = record { cell = record g.cell { bodies = bodies }; bodies = n }

  all_left : g.bodies ≡ g.bodies - 0
  all_left = omega arith

  -- no object is made
  pub provided_none : type_made op ≡ None → g ≡ provided_for basis op g
  provided_none none = ap₂ changed (stock ∙ ap (supply_of basis) all_left) all_left ∙ ap (λ made. provided_by basis made g) (sym none)

  module _ (ty : TypeId) (made : type_made op ≡ Some ty) where
    -- a body of the supply is taken
    pub provided_taken : (ty.0 ≡ basis.ty.0) × (0 < g.bodies) → record g { bodies = g.bodies - 1 } ≡ provided_for basis op g
    provided_taken has =
        let one : g.bodies - 1 ≡ g.bodies - one_if (ty.0 == basis.ty.0) = ap (λ b. g.bodies - one_if b) (sym (eq-eqb ty.0 basis.ty.0 has.0)) in
        ap₂ changed
        (stock ∙ replicate_one_more g.bodies (new_body basis.trace.types basis.ty) has.1
        ∙ ap₂ (λ k n. new_body basis.trace.types (record { 0 = k }) ∷ supply_of basis n) (sym has.0) one)
        one
        ∙ ap (λ (m : Option TypeId). provided_by basis m g) (sym made)

    module _ (lacks : ¬ ((ty.0 ≡ basis.ty.0) × (0 < g.bodies))) where
      none_there : ty.0 ≡ basis.ty.0 → g.bodies ≡ g.bodies - 1
      none_there same =
          elim (cases_Bool (nat_lt 0 g.bodies)) [
            | inl some ↦ absurd (lacks (same, ltb-true 0 g.bodies some))
            | inr none ↦ let few = ltb-false 0 g.bodies none in omega (arith, few)
          ]

      none_taken : g.bodies ≡ g.bodies - one_if (ty.0 == basis.ty.0)
      none_taken =
          elim (cases_Bool (ty.0 == basis.ty.0)) [
            | inl same ↦ none_there (eqb-true ty.0 basis.ty.0 same) ∙ ap (λ b. g.bodies - one_if b) (sym same)
            | inr other ↦ all_left ∙ ap (λ b. g.bodies - one_if b) (sym other)
          ]

      -- a body is made
      pub provided_made : changed (new_body basis.trace.types ty ∷ g.cell.bodies) g.bodies ≡ provided_for basis op g
      provided_made =
          ap₂ changed (ap (λ bodies. new_body basis.trace.types ty ∷ bodies) (stock ∙ ap (supply_of basis) none_taken)) none_taken
          ∙ ap (λ (m : Option TypeId). provided_by basis m g) (sym made)

      pub made_or_refused : (came : Result ⊤ HostError) (n : Guest) → OnOk came (n ≡ changed (new_body basis.trace.types ty ∷ g.cell.bodies) g.bodies) → OnOk came (n ≡ provided_for basis op g)
      made_or_refused (Ok done) n is = is ∙ provided_made
      made_or_refused (Err why) n is = tt
