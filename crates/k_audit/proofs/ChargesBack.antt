-- What a line of the charges was read as is spelled so.
use Rattle.std.proofs.Common.{◌≡◌, ◌∙◌, ◌&&◌, ◌==◌, ℕ, ◌+◌, ◌^◌, ◌<◌, ◌≤◌, true, List, [], ◌∷◌, length, Some, refl, sym, ap, ap₂, subst, arith, codes, decimal, eq-eqb, eqb-true}
use Rattle.std.specs.Prelude.{option_map}
use Rattle.std.specs.Str.{bytes_eq}
use Rattle.std.proofs.lemmas.Bool.{and_parts}
use Rattle.k_types.specs.declared.names.Phase.{Phase}
use Rattle.k_types.specs.declared.names.Phase.TheVariants.{Unmade, Populating, Frozen, Absorbed}
use Rattle.k_types.specs.Bounds.{maximum_below}
use Rattle.k_types.specs.Trace.{Trace}
use Rattle.k_words.specs.Words.{Text, word_at}
use Rattle.k_words.specs.Numbers.{below_of}
use Rattle.k_words.proofs.Spelled.{same}
use Rattle.k_trace.specs.Named.{DeclaredNames}
use Rattle.k_trace.specs.Numbered.{proc_named}
use Rattle.k_text.specs.Report.{kernel_charge_words, limit_charge_words, phase_words, process_charge_words, shared_charge_words}
use Rattle.k_reports.proofs.Options.{branch, if_some, map_some, some_is}
use Rattle.k_reports.proofs.SpelledWords.{read_proc}
use Rattle.k_audit.specs.Grammar.{IsNumber, IsSpelledPhase}
use Rattle.k_audit.specs.Reading.{Pair, Reading, add_heap, add_kernel, add_limit, add_process, bare_phase, heap_line, kernel_line, limit_line, pair_at, phase_of_words, phase_with, process_line, spelled_name}
use Rattle.k_audit.proofs.Plainly.{IsHeader}
use Rattle.k_audit.proofs.WordsBack.{and_then_some, number_back, spelled_back, three_words}

four_words : (ws : List Text) (a b c d : Text) → (length ws == 4) ≡ true → word_at ws 0 ≡ a → word_at ws 1 ≡ b → word_at ws 2 ≡ c → word_at ws 3 ≡ d → ws ≡ a ∷ b ∷ c ∷ d ∷ []
four_words [] a b c d long x y z w = absurd cc
four_words (u ∷ ws) a b c d long x y z w = ap₂ (λ (s : Text) (t : List Text). s ∷ t) x (three_words ws b c d (eq_less ws 3 long) y z w)
  where
    eq_less : (ws : List Text) (n : ℕ) → (length (u ∷ ws) == 1 + n) ≡ true → (length ws == n) ≡ true
    eq_less ws n e = let long = eqb-true (length (u ∷ ws)) (1 + n) e in eq-eqb (length ws) n (omega (arith, long))

five_words : (ws : List Text) (a b c d e : Text) → (length ws == 5) ≡ true → word_at ws 0 ≡ a → word_at ws 1 ≡ b → word_at ws 2 ≡ c → word_at ws 3 ≡ d → word_at ws 4 ≡ e → ws ≡ a ∷ b ∷ c ∷ d ∷ e ∷ []
five_words [] a b c d e long x y z w v = absurd cc
five_words (u ∷ ws) a b c d e long x y z w v =
    ap₂ (λ (s : Text) (t : List Text). s ∷ t) x (four_words ws b c d e (let long' = eqb-true (length (u ∷ ws)) 5 long in eq-eqb (length ws) 4 (omega (arith, long'))) y z w v)

-- the two numbers that the words from that place on are
record IsPair (bound : ℕ) (ws : List Text) (at : ℕ) (pair : Pair) : Type 0 where
  first : decimal pair.first ≡ word_at ws at
  of : codes "of" ≡ word_at ws (at + 1)
  second : decimal pair.second ≡ word_at ws (at + 2)
  small : pair.first < 2 ^ 64
  below : pair.second < bound

pair_back : (bound : ℕ) (ws : List Text) (at : ℕ) (pair : Pair) → bound ≤ 2 ^ 64 → pair_at bound ws at ≡ Some pair → IsPair bound ws at pair
unfolding pair_at
pair_back bound ws at pair le e =
    let t = if_some (bytes_eq (word_at ws (at + 1)) (codes "of")) _ pair e in
    let f = and_then_some _ (below_of (2 ^ 64) (word_at ws at)) pair t.1 in
    let s = map_some _ (below_of bound (word_at ws (at + 2))) pair f.2 in
    let one = number_back (2 ^ 64) (word_at ws at) f.0 (omega arith) f.1 in
    let two = number_back bound (word_at ws (at + 2)) s.from le s.is in
    subst (IsPair bound ws at) s.made (record { first = one.0; of = sym (same (word_at ws (at + 1)) (codes "of") t.0); second = two.0; small = one.1; below = two.1 })

pub record KernelSaid (rd : Reading) (ws : List Text) (next : Reading) : Type 0 where
  pub bytes : ℕ
  pub ceiling : ℕ
  pub small : IsNumber bytes
  pub below : IsNumber ceiling
  pub words : ws ≡ kernel_charge_words bytes ceiling
  pub next_is : add_kernel (record { first = bytes; second = ceiling }) rd ≡ next

pub kernel_back : (rd : Reading) (ws : List Text) (next : Reading) → kernel_line rd ws ≡ Some next → KernelSaid rd ws next
unfolding kernel_line
kernel_back rd ws next e =
    let t = if_some ((length ws == 4) && bytes_eq (word_at ws 0) (codes "kernel")) _ next e in
    let four = and_parts (length ws == 4) (bytes_eq (word_at ws 0) (codes "kernel")) t.0 in
    let m = map_some (λ pair. add_kernel pair rd) (pair_at (2 ^ 64) ws 1) next t.1 in
    let pair = pair_back (2 ^ 64) ws 1 m.from (omega arith) m.is in
    record {
      bytes = m.from.first;
      ceiling = m.from.second;
      small = pair.small;
      below = pair.below;
      words = four_words ws (codes "kernel") (decimal m.from.first) (codes "of") (decimal m.from.second) four.0 (same (word_at ws 0) (codes "kernel") four.1) (sym pair.first) (sym pair.of) (sym pair.second);
      next_is = m.made;
    }

pub record LimitSaid (names : DeclaredNames) (k m : ℕ) (rd : Reading) (ws : List Text) (next : Reading) : Type 0 where
  pub used : ℕ
  pub max : ℕ
  pub small : IsNumber used
  pub below : max < maximum_below
  pub words : ws ≡ limit_charge_words (word_at names.limits m) used max
  pub next_is : add_limit k (record { first = used; second = max }) rd ≡ next

pub limit_back : (names : DeclaredNames) (k m : ℕ) (rd : Reading) (ws : List Text) (next : Reading) → limit_line names k m rd ws ≡ Some next → LimitSaid names k m rd ws next
unfolding limit_line
limit_back names k m rd ws next e =
    let t = if_some ((length ws == 5) && bytes_eq (word_at ws 0) (codes "limit") && bytes_eq (word_at ws 1) (word_at names.limits m)) _ next e in
    let named = and_parts ((length ws == 5) && bytes_eq (word_at ws 0) (codes "limit")) (bytes_eq (word_at ws 1) (word_at names.limits m)) t.0 in
    let five = and_parts (length ws == 5) (bytes_eq (word_at ws 0) (codes "limit")) named.0 in
    let made = map_some (λ pair. add_limit k pair rd) (pair_at maximum_below ws 2) next t.1 in
    let pair = pair_back maximum_below ws 2 made.from (omega arith) made.is in
    record {
      used = made.from.first;
      max = made.from.second;
      small = pair.small;
      below = pair.below;
      words = five_words ws (codes "limit") (word_at names.limits m) (decimal made.from.first) (codes "of") (decimal made.from.second) five.0 (same (word_at ws 0) (codes "limit") five.1) (same (word_at ws 1) (word_at names.limits m) named.1) (sym pair.first) (sym pair.of) (sym pair.second);
      next_is = made.made;
    }

pub record ProcessSaid (names : DeclaredNames) (k p : ℕ) (rd : Reading) (ws : List Text) (next : Reading) : Type 0 where
  pub charge : ℕ
  pub small : IsNumber charge
  pub words : ws ≡ process_charge_words (word_at names.procs p) charge
  pub next_is : add_process k charge rd ≡ next

pub process_back : (names : DeclaredNames) (k p : ℕ) (rd : Reading) (ws : List Text) (next : Reading) → process_line names k p rd ws ≡ Some next → ProcessSaid names k p rd ws next
unfolding process_line
process_back names k p rd ws next e =
    let t = if_some ((length ws == 3) && bytes_eq (word_at ws 0) (codes "process") && bytes_eq (word_at ws 1) (word_at names.procs p)) _ next e in
    let named = and_parts ((length ws == 3) && bytes_eq (word_at ws 0) (codes "process")) (bytes_eq (word_at ws 1) (word_at names.procs p)) t.0 in
    let three = and_parts (length ws == 3) (bytes_eq (word_at ws 0) (codes "process")) named.0 in
    let made = map_some (λ charge. add_process k charge rd) (below_of (2 ^ 64) (word_at ws 2)) next t.1 in
    let number = number_back (2 ^ 64) (word_at ws 2) made.from (omega arith) made.is in
    record {
      charge = made.from;
      small = number.1;
      words = three_words ws (codes "process") (word_at names.procs p) (decimal made.from) three.0 (same (word_at ws 0) (codes "process") three.1) (same (word_at ws 1) (word_at names.procs p) named.1) (sym number.0);
      next_is = made.made;
    }

module _ (names : DeclaredNames) (trace : Trace) (header : IsHeader names trace) where
  -- the phase of the words, behind three others
  record IsPhase (ws : List Text) (phase : Phase) : Type 0 where
    spelled : IsSpelledPhase trace phase
    words : ws ≡ word_at ws 0 ∷ word_at ws 1 ∷ word_at ws 2 ∷ phase_words names phase

  bare_back : (ws : List Text) (phase : Phase) → (length ws == 4) ≡ true → bare_phase (word_at ws 3) ≡ Some phase → IsPhase ws phase
  unfolding bare_phase phase_words
  bare_back ws phase four e =
      branch (IsPhase ws) phase (bytes_eq (word_at ws 3) (codes "unmade")) (Some Unmade) _
      (λ is made. subst (IsPhase ws) (some_is Unmade phase made) (record { spelled = tt; words = four_words ws _ _ _ (codes "unmade") four refl refl refl (same (word_at ws 3) (codes "unmade") is) }))
      (λ rest. let t = if_some (bytes_eq (word_at ws 3) (codes "absorbed")) (Some Absorbed) phase rest in
      subst (IsPhase ws) (some_is Absorbed phase t.1) (record { spelled = tt; words = four_words ws _ _ _ (codes "absorbed") four refl refl refl (same (word_at ws 3) (codes "absorbed") t.0) })) e

  with_back : (ws : List Text) (phase : Phase) → (length ws == 5) ≡ true → phase_with names (word_at ws 3) (word_at ws 4) ≡ Some phase → IsPhase ws phase
  unfolding phase_with phase_words
  with_back ws phase five e =
      branch (IsPhase ws) phase (bytes_eq (word_at ws 3) (codes "populating")) (option_map Populating (proc_named names (word_at ws 4))) _
      (λ is made.
      let m = map_some Populating (proc_named names (word_at ws 4)) phase made in
      let back = read_proc names (word_at ws 4) m.from m.is in
      let procs = header.named.procs in
      let lt = back.0 in
      subst (IsPhase ws) m.made (record { spelled = omega (arith, lt, procs); words = five_words ws _ _ _ (codes "populating") (word_at names.procs m.from.0) five refl refl refl (same (word_at ws 3) (codes "populating") is) (sym back.1) }))
      (λ rest.
      let t = if_some (bytes_eq (word_at ws 3) (codes "frozen")) (option_map Frozen (spelled_name names (word_at ws 4))) phase rest in
      let m = map_some Frozen (spelled_name names (word_at ws 4)) phase t.1 in
      let back = spelled_back names trace header (word_at ws 4) m.from m.is in
      subst (IsPhase ws) m.made (record { spelled = back.0; words = five_words ws _ _ _ (codes "frozen") _ five refl refl refl (same (word_at ws 3) (codes "frozen") t.0) (sym back.1) })) e

  phase_back : (ws : List Text) (phase : Phase) → phase_of_words names ws ≡ Some phase → IsPhase ws phase
  unfolding phase_of_words
  phase_back ws phase e =
      branch (IsPhase ws) phase (length ws == 4) (bare_phase (word_at ws 3)) _ (λ four made. bare_back ws phase four made)
      (λ rest. let t = if_some (length ws == 5) (phase_with names (word_at ws 3) (word_at ws 4)) phase rest in with_back ws phase t.0 t.1) e

  pub record HeapSaid (k s : ℕ) (rd : Reading) (ws : List Text) (next : Reading) : Type 0 where
    pub bytes : ℕ
    pub phase : Phase
    pub small : IsNumber bytes
    pub spelled : IsSpelledPhase trace phase
    pub words : ws ≡ shared_charge_words names (word_at names.shared s) bytes phase
    pub next_is : add_heap k bytes phase rd ≡ next

  pub heap_line_back : (k s : ℕ) (rd : Reading) (ws : List Text) (next : Reading) → heap_line names k s rd ws ≡ Some next → HeapSaid k s rd ws next
  unfolding heap_line
  heap_line_back k s rd ws next e =
      let t = if_some (bytes_eq (word_at ws 0) (codes "shared") && bytes_eq (word_at ws 1) (word_at names.shared s)) _ next e in
      let named = and_parts (bytes_eq (word_at ws 0) (codes "shared")) (bytes_eq (word_at ws 1) (word_at names.shared s)) t.0 in
      let b = and_then_some (λ bytes. option_map (λ phase. add_heap k bytes phase rd) (phase_of_words names ws)) (below_of (2 ^ 64) (word_at ws 2)) next t.1 in
      let m = map_some (λ phase. add_heap k b.0 phase rd) (phase_of_words names ws) next b.2 in
      let number = number_back (2 ^ 64) (word_at ws 2) b.0 (omega arith) b.1 in
      let phase = phase_back ws m.from m.is in
      record {
        bytes = b.0;
        phase = m.from;
        small = number.1;
        spelled = phase.spelled;
        words = phase.words ∙ ap₂ (λ (a : Text) (rest : List Text). a ∷ rest) (same (word_at ws 0) (codes "shared") named.0)
            (ap₂ (λ (a : Text) (rest : List Text). a ∷ rest) (same (word_at ws 1) (word_at names.shared s) named.1) (ap (λ (a : Text). a ∷ phase_words names m.from) (sym number.0)));
        next_is = m.made;
      }
