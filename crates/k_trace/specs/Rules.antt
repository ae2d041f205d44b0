-- Which traces have a spelling, and which bytes spell them.
use Rattle.std.specs.Prelude.{◌≡◌, ◌≢◌, ℕ, ◌<◌, ◌≤◌, ◌++◌, List, length, IsTrue}
use Rattle.k_limits.specs.k_types.TraceRules.{KeepsRules}
use Rattle.k_words.specs.Words.{Text, word_at, AreText}
use Rattle.k_words.specs.Names.{is_name}
use Rattle.k_trace.specs.Named.{NamedTrace}
use Rattle.k_trace.specs.Spelling.{text}

-- all of them are names, and no two are one
pub record AreNames (names : List Text) : Type 0 where
  pub each : (i : ℕ) → i < length names → IsTrue (is_name (word_at names i))
  pub apart : (i k : ℕ) → k < i → i < length names → word_at names i ≢ word_at names k

-- the trace keeps the rules of the machine, and declares a name for each type, limit, process and shared heap; processes and
-- shared heaps have no name in common
pub record IsTrace (t : NamedTrace) : Type 0 where
  pub rules : KeepsRules t.trace
  pub type_names : AreNames t.names.types
  pub limit_names : AreNames t.names.limits
  pub heap_names : AreNames (t.names.procs ++ t.names.shared)
  pub types_named : length t.names.types ≡ length t.trace.types
  pub limits_named : length t.names.limits ≡ length t.trace.limits
  pub procs_named : length t.names.procs ≡ length t.trace.procs
  pub shared_named : length t.names.shared ≡ t.trace.shared_heaps
  pub has_root : 0 < length t.trace.limits

-- the bytes spell the trace: they are few enough, and are its text but for the last line feed, which may be missing
pub record Spells (bytes : Text) (t : NamedTrace) : Type 0 where
  pub few : length bytes ≤ 16777216
  pub is_trace : IsTrace t
  pub is_text : AreText bytes (text t)
