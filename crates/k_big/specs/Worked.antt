-- The smallest trace and its summary, and words that are read.
use Rattle.std.specs.Prelude.{◌≡◌, ℕ, List, [], ◌∷◌, ◌++◌, Some, None, codes}
use Rattle.std.specs.List.{flat_map}
use Rattle.k_types.specs.FileOrder.{file_order}
use Rattle.k_words.specs.Words.{Text}
use Rattle.k_big.specs.Words.{objects_of}
use Rattle.k_big.specs.Summary.{summary_text}
use Rattle.k_big.specs.Workload.{big_trace}

-- the text of these lines, each ended by a line feed
abbrev pub of_lines : List Text → Text
of_lines lines = flat_map (λ line. line ++ 10 ∷ []) lines

-- the lines of the operations of a process that goes on, where it makes one object
abbrev pub lines_of_process : Text → Text → List Text
lines_of_process name field =
    (name ++ codes " dir r15")
    ∷ (name ++ codes " new r0 Node")
    ∷ (name ++ codes " store r0 0 r1")
    ∷ (name ++ codes " move r1 r0")
    ∷ (name ++ codes " put r0 2 0")
    ∷ (name ++ codes " store r15 " ++ field ++ codes " r0")
    ∷ []

-- the text of the trace where each process makes one object
abbrev pub smallest_text : Text
smallest_text = of_lines (
    (codes "kaffe 1"
    ∷ codes "kernel 80 8"
    ∷ codes "type Node ref ref int"
    ∷ codes "limit root 320"
    ∷ codes "limit l0 root hard 40"
    ∷ codes "limit l1 root hard 40"
    ∷ codes "limit l2 root hard 40"
    ∷ codes "limit l3 root hard 40"
    ∷ codes "limit l4 root hard 40"
    ∷ codes "limit l5 root hard 40"
    ∷ codes "limit l6 root hard 40"
    ∷ codes "limit l7 root hard 40"
    ∷ codes "proc w0 l0"
    ∷ codes "proc w1 l1"
    ∷ codes "proc w2 l2"
    ∷ codes "proc w3 l3"
    ∷ codes "proc w4 l4"
    ∷ codes "proc w5 l5"
    ∷ codes "proc w6 l6"
    ∷ codes "proc w7 l7"
    ∷ [])
    ++ lines_of_process (codes "w0") (codes "0") ++ codes "w0 exit" ∷ []
    ++ lines_of_process (codes "w1") (codes "1")
    ++ lines_of_process (codes "w2") (codes "2") ++ codes "w2 exit" ∷ []
    ++ lines_of_process (codes "w3") (codes "3")
    ++ lines_of_process (codes "w4") (codes "4") ++ codes "w4 exit" ∷ []
    ++ lines_of_process (codes "w5") (codes "5")
    ++ lines_of_process (codes "w6") (codes "6") ++ codes "w6 exit" ∷ []
    ++ lines_of_process (codes "w7") (codes "7")
    )

-- the summary of the history in the order of the file, where each process makes so many objects
abbrev pub file_order_summary : ℕ → Text
file_order_summary objects = summary_text objects (file_order (big_trace objects).trace)

-- the summary where each process makes one object
abbrev pub smallest_summary : Text
smallest_summary = of_lines (
    codes "big 1"
    ∷ codes "operations 52"
    ∷ codes "events 52"
    ∷ codes "faults 0"
    ∷ codes "freed 0"
    ∷ codes "kernel 240"
    ∷ codes "live 160"
    ∷ codes "root 320"
    ∷ []
    )

-- numbers from 1 to 5000 are read; 0, greater ones, and words with a sign, a 0 before the number or another byte are not
pub record WordsAreRead : Type 0 where
  pub least : objects_of (codes "1") ≡ Some 1
  pub ten : objects_of (codes "10") ≡ Some 10
  pub most : objects_of (codes "5000") ≡ Some 5000
  pub none : objects_of (codes "0") ≡ None
  pub too_many : objects_of (codes "5001") ≡ None
  pub zeros_before : objects_of (codes "007") ≡ None
  pub sign : objects_of (codes "+7") ≡ None
  pub letter : objects_of (codes "7a") ≡ None
  pub empty : objects_of [] ≡ None
  pub wide : objects_of (codes "18446744073709551617") ≡ None
