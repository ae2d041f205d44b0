-- The words of a snapshot's lines are visible bytes, so that each line is read as its words.
use Rattle.std.proofs.Common.{◌≡◌, ◌∙◌, ◌&&◌, ℕ, ◌^◌, ◌<◌, Bool, true, false, not, eqb, List, [], ◌∷◌, length, map, Option, Some, None, refl, sym, ap, arith, length-append}
use Rattle.std.specs.Prelude.{IfSome}
use Rattle.std.specs.List.{AllByRecursion, list_all, join_with_byte}
use Rattle.std.specs.Str.{bytes_eq}
use Rattle.std.proofs.lemmas.Bool.{false≢true, false_from_ne_true}
use Rattle.std.proofs.lemmas.List.Folds.{list_all-append}
use Rattle.k_types.specs.declared.names.Heap.{Heap}
use Rattle.k_types.specs.declared.names.Heap.TheVariants.{Kernel, User, Shared}
use Rattle.k_types.specs.declared.names.Name.{Name}
use Rattle.k_types.specs.declared.names.Phase.{Phase}
use Rattle.k_types.specs.declared.names.Phase.TheVariants.{Unmade, Populating, Frozen, Absorbed}
use Rattle.k_types.specs.declared.names.TypeId.{TypeId}
use Rattle.k_types.specs.State.{Content, ExitItem, Holds, Object, Refers, Sharing}
use Rattle.k_types.specs.Trace.{IsHeap, Trace, process_count, segment_count}
use Rattle.k_words.specs.Words.{Text, word_at}
use Rattle.k_words.specs.Numbers.{register_word}
use Rattle.k_words.proofs.Spelled.{same}
use Rattle.k_words.proofs.Again.{has_no_space, declares-at, number_of-at}
use Rattle.k_trace.specs.Named.{DeclaredNames}
use Rattle.k_trace.specs.Numbered.{proc_named, shared_named, type_named}
use Rattle.k_trace.proofs.Pushed.{AreNames_front, AreNames_back}
use Rattle.k_text.specs.Named.{AreNamed, IsNamedHeap, name_word, reference_word, segment_names, type_word}
use Rattle.k_text.specs.Report.{content_word, kernel_charge_words, limit_charge_words, object_words, phase_words, process_charge_words, shared_charge_words}
use Rattle.k_state.specs.Setups.{AreSetupRules}
use Rattle.k_reports.specs.Spelled.{AreProper, IsSpelledName as IsNameSpelled}
use Rattle.k_reports.proofs.Visible.{heap_plain, is_plain, limit_plain, object_plain, plain_words, proc_plain, segment_plain, shared_plain}
use Rattle.k_audit.specs.Grammar.{IsSpelledContent, IsSpelledExit, IsSpelledName, IsSpelledObject, IsSpelledPhase, IsSpelledShare}
use Rattle.k_audit.specs.Lines.{exit_line, gone_words, made_words, share_words}

-- the header of a trace: its setup keeps the rules, each thing has a name, and names can be told apart
pub record IsHeader (names : DeclaredNames) (trace : Trace) : Type 0 where
  pub rules : AreSetupRules trace
  pub named : AreNamed names trace
  pub proper : AreProper names

-- the line of these words
abbrev pub line_of : List Text → Text
line_of ws = join_with_byte 32 ws

-- ---- lines of two words or more are no headings

and_false : (b : Bool) → (b && false) ≡ false
and_false true = refl
and_false false = refl

join_has_space : (w v : Text) (ws : List Text) → has_no_space (line_of (w ∷ v ∷ ws)) ≡ false
join_has_space w v ws = list_all-append (λ b. not (eqb b 32)) w (32 ∷ line_of (v ∷ ws)) ∙ and_false (has_no_space w)

pub not_heading : (w v : Text) (ws : List Text) (k : Text) → has_no_space k ≡ true → bytes_eq (line_of (w ∷ v ∷ ws)) k ≡ false
not_heading w v ws k plain =
    false_from_ne_true (bytes_eq (line_of (w ∷ v ∷ ws)) k) (λ e. false≢true (sym (join_has_space w v ws) ∙ ap has_no_space (same (line_of (w ∷ v ∷ ws)) k e) ∙ plain))

-- ---- words

module _ (names : DeclaredNames) (trace : Trace) (header : IsHeader names trace) where
  pub name_known : (n : Name) → IsSpelledName trace n → IsNameSpelled names n
  name_known n spelled =
      let known = spelled.known in
      let all = length-append names.procs names.shared in
      let procs = header.named.procs in
      let shared = header.named.shared in
      (omega (arith, known, all, procs, shared), spelled.small)

  pub heap_known : (h : Heap) → IsHeap trace h → IsNamedHeap names h
  heap_known Kernel known = tt
  heap_known (User p) known = let procs = header.named.procs in omega (arith, known, procs)
  heap_known (Shared s) known = let shared = header.named.shared in omega (arith, known, shared)

  pub proc_known : (p : ℕ) → p < process_count trace → p < length names.procs
  proc_known p known = let procs = header.named.procs in omega (arith, known, procs)

  pub shared_known : (s : ℕ) → s < trace.shared_heaps → s < length names.shared
  shared_known s known = let shared = header.named.shared in omega (arith, known, shared)

  pub limit_known : (m : ℕ) → m < length trace.limits → m < length names.limits
  limit_known m known = let limits = header.named.limits in omega (arith, known, limits)

  pub segment_known : (seg : ℕ) → seg < segment_count trace → seg < length (segment_names names)
  segment_known seg known =
      let all = length-append names.procs names.shared in
      let procs = header.named.procs in
      let shared = header.named.shared in
      omega (arith, known, all, procs, shared)

  -- ---- the lines' words are plain

  pub gone_plain : (p : ℕ) → p < process_count trace → list_all is_plain (gone_words names p) ≡ true
  gone_plain p known = rw (proc_plain names p header.proper (proc_known p known)) refl

  pub made_plain : (seg n : ℕ) → seg < segment_count trace → n < 2 ^ 32 → list_all is_plain (made_words names seg n) ≡ true
  made_plain seg n known small = rw (segment_plain names seg header.proper (segment_known seg known), plain_words.number n (omega (arith, small))) refl

  reference_plain : (r : Option Name) → IfSome r (IsSpelledName trace) → is_plain (reference_word names r) ≡ true
  reference_plain None spelled = refl
  reference_plain (Some n) spelled = object_plain names n header.proper (name_known n spelled)

  content_plain : (c : Content) → IsSpelledContent trace c → is_plain (content_word names c) ≡ true
  content_plain (Refers r) spelled = reference_plain r spelled
  content_plain (Holds n) spelled = plain_words.number n spelled

  contents_plain : (cs : List Content) → AllByRecursion (IsSpelledContent trace) cs → list_all is_plain (map (content_word names) cs) ≡ true
  contents_plain [] all = refl
  contents_plain (c ∷ cs) all = rw (content_plain c all.0, contents_plain cs all.1) refl

  type_plain : (ty : Option TypeId) → IfSome ty (λ t. t.0 < length trace.types) → is_plain (type_word names ty) ≡ true
  type_plain None known = refl
  type_plain (Some ty) known = plain_words.name (word_at names.types ty.0) (header.proper.types.each ty.0 (let types = header.named.types in omega (arith, known, types)))

  pub object_line_plain : (h : Heap) (o : Object) → IsHeap trace h → IsSpelledObject trace o → list_all is_plain (object_words names h o) ≡ true
  object_line_plain h o known spelled =
      rw (object_plain names o.name header.proper (name_known o.name spelled.name), heap_plain names h header.proper (heap_known h known), type_plain o.ty spelled.typed.declared, contents_plain o.fields spelled.fields) refl

  pub root_plain : (p r : ℕ) (n : Name) → p < process_count trace → r < 16 → IsSpelledName trace n → list_all is_plain (word_at names.procs p ∷ register_word r ∷ name_word names n ∷ []) ≡ true
  root_plain p r n known small spelled = rw (proc_plain names p header.proper (proc_known p known), plain_words.register r small, object_plain names n header.proper (name_known n spelled)) refl

  pub exit_plain : (e : ExitItem) → IsSpelledExit trace e → list_all is_plain (exit_line names e) ≡ true
  exit_plain e spelled = rw (heap_plain names e.heap header.proper (heap_known e.heap spelled.0), object_plain names e.target header.proper (name_known e.target spelled.1)) refl

  pub share_plain : (e : Sharing) → IsSpelledShare trace e → list_all is_plain (share_words names e) ≡ true
  share_plain e spelled = rw (proc_plain names e.process header.proper (proc_known e.process spelled.0), shared_plain names e.heap header.proper (shared_known e.heap spelled.1)) refl

  pub kernel_plain : (b c : ℕ) → b < 2 ^ 64 → c < 2 ^ 64 → list_all is_plain (kernel_charge_words b c) ≡ true
  kernel_plain b c small below = rw (plain_words.number b small, plain_words.number c below) refl

  pub limit_line_plain : (m used max : ℕ) → m < length trace.limits → used < 2 ^ 64 → max < 2 ^ 40 → list_all is_plain (limit_charge_words (word_at names.limits m) used max) ≡ true
  limit_line_plain m used max known small below = rw (limit_plain names m header.proper (limit_known m known), plain_words.number used small, plain_words.number max (omega (arith, below))) refl

  pub process_line_plain : (p charge : ℕ) → p < process_count trace → charge < 2 ^ 64 → list_all is_plain (process_charge_words (word_at names.procs p) charge) ≡ true
  process_line_plain p charge known small = rw (proc_plain names p header.proper (proc_known p known), plain_words.number charge small) refl

  phase_plain : (phase : Phase) → IsSpelledPhase trace phase → list_all is_plain (phase_words names phase) ≡ true
  unfolding phase_words
  phase_plain Unmade spelled = refl
  phase_plain (Populating p) spelled = rw (proc_plain names p.0 header.proper (proc_known p.0 spelled)) refl
  phase_plain (Frozen root) spelled = rw (object_plain names root header.proper (name_known root spelled)) refl
  phase_plain Absorbed spelled = refl

  pub heap_line_plain : (s bytes : ℕ) (phase : Phase) → s < trace.shared_heaps → bytes < 2 ^ 64 → IsSpelledPhase trace phase → list_all is_plain (shared_charge_words names (word_at names.shared s) bytes phase) ≡ true
  heap_line_plain s bytes phase known small spelled = rw (shared_plain names s header.proper (shared_known s known), plain_words.number bytes small, phase_plain phase spelled) refl

  -- ---- names as they are read

  pub proc_read : (p : ℕ) → p < process_count trace → proc_named names (word_at names.procs p) ≡ Some (record { 0 = p })
  proc_read p known =
      let lt = proc_known p known in
      rw (declares-at names.procs p lt, number_of-at names.procs p (AreNames_front names.procs names.shared header.proper.heaps).apart lt) refl

  pub shared_read : (s : ℕ) → s < trace.shared_heaps → shared_named names (word_at names.shared s) ≡ Some (record { 0 = s })
  shared_read s known =
      let lt = shared_known s known in
      rw (declares-at names.shared s lt, number_of-at names.shared s (AreNames_back names.procs names.shared header.proper.heaps).apart lt) refl

  pub type_read : (ty : ℕ) → ty < length trace.types → type_named names (word_at names.types ty) ≡ Some (record { 0 = ty })
  type_read ty known =
      let lt : ty < length names.types = let types = header.named.types in omega (arith, known, types) in
      rw (declares-at names.types ty lt, number_of-at names.types ty header.proper.types.apart lt) refl
