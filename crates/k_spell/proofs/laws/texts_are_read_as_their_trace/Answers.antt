use Rattle.std.proofs.Common.{inl, refl}
use Rattle.k_trace.specs.Spelling.{text}
use Rattle.k_reader.proofs.Whole.{complete}
use Rattle.k_spell.proofs.laws.texts_are_read_as_their_trace.Goals as goal

pub returns : goal.returns
returns c t is few = complete (text t) t (record { few = few; is_trace = is; is_text = inl refl })
