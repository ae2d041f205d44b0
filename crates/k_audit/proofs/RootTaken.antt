-- A register that a line sets.
use Rattle.std.proofs.Common.{◌≡◌, ℕ, ◌≤◌, false, length, Option, Some, refl, le-leb, length-set, codes, get_or, set, []}
use Rattle.std.specs.Str.{bytes_eq}
use Rattle.k_types.specs.declared.names.Name.{Name}
use Rattle.k_types.specs.State.{State}
use Rattle.k_types.specs.Updates.{set_register}
use Rattle.k_words.specs.Words.{Text, words_of}
use Rattle.k_trace.specs.Named.{DeclaredNames}
use Rattle.k_audit.specs.Reading.{Reading, Root, add_root, root_line, root_of, root_place}

pub root_taken : (names : DeclaredNames) (least : ℕ) (rd : Reading) (line : Text) (root : Root) → bytes_eq line (codes "exits") ≡ false → root_of names (words_of line) ≡ Some root → least ≤ root_place root →
    root_line names least rd line ≡ Some (add_root root rd)
unfolding root_line
root_taken names least rd line root other is low = rw (other, is, le-leb least (root_place root) low) refl

pub registers_kept : (p r : ℕ) (value : Option Name) (st : State) → length (set_register p r value st).registers ≡ length st.registers
unfolding set_register
registers_kept p r value st = length-set st.registers p (set (get_or st.registers p []) r value)
