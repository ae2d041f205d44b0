use Rattle.std.proofs.Common.{ap, ◌∙◌, sym, inl, inr, get_or, set, slice_get, Some, arith}
use Rattle.std.proofs.lemmas.Bool.{cases_eq}
use Rattle.std.proofs.lemmas.List.{get_or-set_same, get_or-set_other, length-set}
use Rattle.k_space.specs.Objects.{content_of}
use Rattle.k_space.specs.declared.body.Stored.{Stored}
use Rattle.k_space.specs.declared.body.Stored.TheVariants.{Null}
use Rattle.k_space.proofs.body.Body.copy_to.Goals as goal

pub loop-i-preserved : goal.loop-i-preserved
loop-i-preserved c =
    let was = c.loop-i.invariant in
    record {
      len = length-set c.loop-i.into c.loop-i.i c.stored.result ∙ was.len;
      few = was.few;
      copied = λ k below.
          elim (cases_eq k c.loop-i.i) [
            | inl same ↦
                ap (slice_get c.args.self.now.fields) same ∙ c.stored.ensures
                ∙ ap (λ (x : Stored). Some (content_of x)) (sym (get_or-set_same c.loop-i.into c.loop-i.i c.stored.result Null (omega (arith, was.len, was.few, c.requires))))
                ∙ ap (λ n. Some (content_of (get_or (set c.loop-i.into c.loop-i.i c.stored.result) n Null))) (sym same)
            | inr differs ↦
                was.copied k (omega (arith, below, differs))
                ∙ ap (λ (x : Stored). Some (content_of x)) (sym (get_or-set_other c.loop-i.into c.loop-i.i k c.stored.result Null differs))
          ];
    }
