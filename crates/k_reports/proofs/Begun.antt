-- Histories that are begun.
use Rattle.std.proofs.Common.{◌∙◌, List, ◌++◌, sym, ap, append_assoc}
use Rattle.k_types.specs.declared.event.Event.{Event}
use Rattle.k_types.specs.Trace.{Trace}
use Rattle.k_types.specs.State.{opening}
use Rattle.k_types.specs.Steps.{done_by}
use Rattle.k_laws.proofs.Histories.{legal_front, done_append}
use Rattle.k_reports.specs.Begun.{IsBegun}

-- The first events of a history that is begun are begun.
pub begun_front : (trace : Trace) (xs ys : List Event) → IsBegun trace (xs ++ ys) → IsBegun trace xs
begun_front trace xs ys h = record {
  legal = legal_front trace (opening trace) xs ys h.legal;
  in_order = λ p known. let rest = h.in_order p known in
      (done_by p ys ++ rest.0, sym (append_assoc (done_by p xs) (done_by p ys) rest.0) ∙ ap (λ ops. ops ++ rest.0) (sym (done_append p xs ys)) ∙ rest.1);
}
