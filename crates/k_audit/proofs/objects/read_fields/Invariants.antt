use Rattle.std.proofs.Common.{◌≡◌, ◌+◌, ◌++◌, drop, length, map}
use Rattle.std.specs.Prelude.{[], option_map}
use Rattle.k_types.specs.Sound.{kinds_by}
use Rattle.k_types.specs.Trace.{trace_of}
use Rattle.k_words.specs.Words.{words_of}
use Rattle.k_state.specs.Contents.{content}
use Rattle.k_audit.specs.Reading.{contents_at}
use Rattle.k_audit.proofs.objects.read_fields.Given as goal

abbrev pub invariant-loop-i : goal.invariant-loop-i
invariant-loop-i l = record {
  read : contents_at l.names (kinds_by (trace_of l.setup [] []) l.ty) (words_of l.line) 3
      ≡ option_map (λ more. map content l.fields.items ++ more) (contents_at l.names (drop l.i (kinds_by (trace_of l.setup [] []) l.ty)) (words_of l.line) (3 + l.i));
  long : length l.fields.items ≡ l.i;
}
