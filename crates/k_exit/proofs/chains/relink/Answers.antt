use Rattle.std.proofs.Common.{◌≡◌, ℕ, List, refl, sym, ap, subst, ◌∙◌, length, get_or, replicate, add-one, arith}
use Rattle.k_exit.specs.Chains.{IsLinked}
use Rattle.k_exit.proofs.Removes.{none_linked, one_more, all_zero}
use Rattle.k_exit.proofs.chains.relink.Goals as goal

pub loop-i-init : goal.loop-i-init
loop-i-init c =
    let items : c.fill.new.self.items ≡ replicate {A = ℕ} c.args.heads.now.len 0 = c.fill.ensures.items (λ y e. e) in
    let len : length c.fill.new.self.items ≡ length c.args.heads.now.items = omega (arith, c.fill.ensures.len, c.fill.new.self.ok.0, c.args.heads.now.ok.0) in
    record {
      linked = none_linked c.args.items.now.items c.fill.new.self.items (λ b. ap (λ (xs : List ℕ). get_or xs b 0) items ∙ all_zero c.args.heads.now.len b) (omega (arith, len, c.requires.room)) (omega (arith, len, c.requires.small));
      rows = refl;
      capacity = refl;
      room = len;
      heads_capacity = c.fill.ensures.capacity;
      len = omega (arith, c.len-len.ensures, c.args.items.now.ok.0);
    }

pub link-requires-clause-linked : goal.link-requires-clause-linked
link-requires-clause-linked c =
    subst (λ n. IsLinked c.loop-i.items.items c.loop-i.heads.items n c.loop-i.i) (sym (add-one c.loop-i.i))
    (one_more c.loop-i.items.items c.loop-i.heads.items c.loop-i.i c.loop-i.invariant.linked (omega (arith, c.loop-i.invariant.len)))
