-- How declared names are chained. No public clause cites this file.
use Rattle.std.specs.Prelude.{◌≡◌, ◌≢◌, ℕ, ◌+◌, ◌-◌, ◌*◌, ◌%◌, ◌<◌, ◌≤◌, List, [], ◌∷◌, length, map, slice_index}
use Rattle.k_words.specs.declared.name_list.Declared.{Declared}
use Rattle.k_words.specs.declared.name_list.TheConstants.{CHAINS}
use Rattle.k_words.specs.Words.{Text, word_at}

-- the names, and the links beside them
abbrev pub texts : List Declared → List Text
texts names = map (λ d. d.name.items) names

abbrev pub befores : List Declared → List ℕ
befores names = map (λ d. d.before) names

-- the chain of a name that goes on with these bytes
abbrev pub chain_from : ℕ → Text → ℕ
chain_from hash [] = hash
chain_from hash (b ∷ bytes) = chain_from ((hash * 37 + b) % CHAINS) bytes

-- the chain of a name
abbrev pub chain_of : Text → ℕ
chain_of name = chain_from 0 name

-- the link leads to the last on the chain of the first n names, or to none
pub record IsLast (names : List Text) (chain n link : ℕ) : Type 0 where
  pub within : link ≤ n
  pub on : 0 < link → chain_of (word_at names (link - 1)) ≡ chain
  pub last : (k : ℕ) → k < n → chain_of (word_at names k) ≡ chain → k < link

-- no two names are one, and the links lead along the chains
pub record AreChained (names : List Text) (links heads : List ℕ) : Type 0 where
  pub apart : (i k : ℕ) → k < i → i < length names → word_at names i ≢ word_at names k
  pub last : (c : ℕ) → c < CHAINS → IsLast names c (length names) (slice_index heads c)
  pub before : (i : ℕ) → i < length names → IsLast names (chain_of (word_at names i)) i (slice_index links i)
