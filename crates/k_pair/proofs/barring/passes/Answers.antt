use Rattle.std.proofs.Common.{◌≡◌, ap, ap₂, subst, sym, ◌∙◌, Option, Some, Bool, option_map}
use Rattle.k_types.specs.declared.names.Kind.{Kind}
use Rattle.k_types.specs.declared.names.Name.{Name}
use Rattle.k_types.specs.Barrier.{legal_store}
use Rattle.k_types.specs.Names.{heap_eq, kind_of, name_of}
use Rattle.k_laws.specs.Answers.{passes_barrier_in}
use Rattle.k_pair.proofs.barring.passes.Goals as goal

pub returns : goal.returns
returns g c =
    let y : Name = name_of c.in-Some.target in
    let value : option_map name_of c.args.value ≡ Some y = ap (option_map name_of) c.in-Some.is in
    let home : c.owner-owner.result ≡ g.own y.seg.0 = c.owner-owner.ensures ∙ c.requires.owners y value in
    subst (λ (v : Option Name). c.legal.result ≡ passes_barrier_in g.own c.args.heap v) (sym value)
    (c.legal.ensures
    ∙ ap (λ (k : Kind). legal_store k c.kind_of-2.result c.is_same.result) c.kind_of.ensures
    ∙ ap₂ (λ (k : Kind) (t : Bool). legal_store (kind_of c.args.heap) k t) (c.kind_of-2.ensures ∙ ap kind_of home) (c.is_same.ensures ∙ ap (heap_eq c.args.heap) home))
