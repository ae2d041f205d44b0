-- Each line of a snapshot is read as what it says.
use Rattle.std.proofs.Common.{◌≡◌, ◌∙◌, ◌==◌, ℕ, ◌+◌, ◌*◌, ◌^◌, ◌<◌, ◌≤◌, nat_lt, true, false, List, [], ◌∷◌, ◌++◌, length, map, Option, Some, None, is_none, refl, sym, ap, inl, inr, arith, codes, decimal, append_assoc, append-nil, eq-eqb, le-leb, lt-ltb, length-append}
use Rattle.std.specs.Prelude.{IfSome, option_map}
use Rattle.std.specs.List.{AllByRecursion, list_any}
use Rattle.std.specs.Str.{bytes_eq}
use Rattle.std.proofs.lemmas.Bool.{and_from, false≢true, false_from_ne_true, or_left, or_right}
use Rattle.std.proofs.lemmas.Slice.Eq.{bytes_eq-Decides}
use Rattle.k_types.specs.declared.names.Field.{Field}
use Rattle.k_types.specs.declared.names.Heap.{Heap}
use Rattle.k_types.specs.declared.names.Name.{Name}
use Rattle.k_types.specs.declared.names.Pid.{Pid}
use Rattle.k_types.specs.declared.names.Phase.{Phase}
use Rattle.k_types.specs.declared.names.Phase.TheVariants.{Unmade, Populating, Frozen, Absorbed}
use Rattle.k_types.specs.declared.names.TypeId.{TypeId}
use Rattle.k_types.specs.Names.{directory, name_eq}
use Rattle.k_types.specs.Sound.{IsTyped, kinds_by}
use Rattle.k_types.specs.State.{Content, ExitItem, Holds, Object, Refers, Sharing, field_kind}
use Rattle.k_types.specs.Trace.{IsHeap, Trace, process_count, segment_count, segment_of}
use Rattle.k_words.specs.Words.{Text, word_at, words_of}
use Rattle.k_words.specs.Numbers.{below_of, register_of, register_word}
use Rattle.k_words.proofs.Spelled.{same}
use Rattle.k_words.proofs.Again.{is_below-decimal, is_register-word, value-decimal}
use Rattle.k_trace.specs.Named.{DeclaredNames}
use Rattle.k_text.specs.Named.{heap_word, name_word, reference_word, segment_names, type_word}
use Rattle.k_text.specs.Report.{content_word, kernel_charge_words, limit_charge_words, object_words, phase_words, process_charge_words, shared_charge_words}
use Rattle.k_reports.specs.Reading.{heap_named, is_dot}
use Rattle.k_reports.proofs.SpelledWords.{heap_word_read, name_word_read, object_has_dot}
use Rattle.k_reports.proofs.Visible.{read_back}
use Rattle.k_audit.specs.Grammar.{IsAfter, IsExitAfter, IsSpelledContent, IsSpelledExit, IsSpelledName, IsSpelledObject, IsSpelledPhase, IsSpelledShare, share_place}
use Rattle.k_audit.specs.Lines.{exit_line as exit_words, gone_words, made_words, share_words}
use Rattle.k_audit.specs.Reading.{Reading, add_exit, add_gone, add_heap, add_kernel, add_limit, add_made, add_object, add_process, add_root, add_share, bare_phase, content_of, contents_at, exit_line, exit_of, gone_line, gone_of, graph_line, head_of, heap_line, is_after, is_exit_after, kernel_line, limit_line, made_line, made_of, object_of, object_with, pair_at, phase_of_words, phase_with, process_line, reference_of, root_line, root_of, share_line, share_of, spelled_name, type_of_word}
use Rattle.k_audit.proofs.Plainly.{IsHeader, exit_plain, gone_plain, heap_known, heap_line_plain, kernel_plain, limit_line_plain, line_of, made_plain, name_known, not_heading, object_line_plain, proc_read, process_line_plain, root_plain, share_plain, shared_read, type_read}

pub itself : (w : Text) → bytes_eq w w ≡ true
itself w = (bytes_eq-Decides w w).1 refl

pub number_read : (bound n : ℕ) → n < bound → bound ≤ 2 ^ 64 → below_of bound (decimal n) ≡ Some n
number_read bound n lt le = rw (is_below-decimal n bound lt le, value-decimal n (omega (arith, lt, le))) refl

pub register_read : (r : ℕ) → r < 16 → register_of (register_word r) ≡ Some r
register_read r lt = rw (is_register-word r lt, value-decimal r (omega (arith, lt))) refl

-- a name has a dot, and `null` has none
not_null : (names : DeclaredNames) (n : Name) → bytes_eq (name_word names n) (codes "null") ≡ false
not_null names n = false_from_ne_true (bytes_eq (name_word names n) (codes "null")) (λ e.
    false≢true (ap (list_any is_dot) (sym (same (name_word names n) (codes "null") e)) ∙ object_has_dot (word_at (segment_names names) n.seg.0) (decimal n.serial.0)))

after_true : (last : Option Name) (n : Name) → IsAfter last n → is_after last n ≡ true
after_true None n after = refl
after_true (Some last) n after = after

module _ (names : DeclaredNames) (trace : Trace) (header : IsHeader names trace) where
  pub spelled_read : (n : Name) → IsSpelledName trace n → spelled_name names (name_word names n) ≡ Some n
  unfolding spelled_name
  spelled_read n spelled = rw (name_word_read names n header.proper (name_known names trace header n spelled), lt-ltb 0 n.serial.0 spelled.from_one) refl

  heap_read : (h : Heap) → IsHeap trace h → heap_named names (heap_word names h) ≡ Some h
  heap_read h known = heap_word_read names h header.proper (heap_known names trace header h known)

  -- ---- the processes that have ended

  gone_of_words : (p : ℕ) → p < process_count trace → gone_of names (gone_words names p) ≡ Some (record { 0 = p })
  unfolding gone_of
  gone_of_words p known = proc_read names trace header p known

  gone_taken : (p : Pid) (least : ℕ) (rd : Reading) (line : Text) → bytes_eq line (codes "made") ≡ false → gone_of names (words_of line) ≡ Some p → least ≤ p.0 → gone_line names least rd line ≡ Some (add_gone p.0 rd)
  unfolding gone_line
  gone_taken p least rd line other is low = rw (other, is, le-leb least p.0 low) refl

  pub gone_read : (p least : ℕ) (rd : Reading) → p < process_count trace → least ≤ p → gone_line names least rd (line_of (gone_words names p)) ≡ Some (add_gone p rd)
  gone_read p least rd known low =
      gone_taken (record { 0 = p }) least rd (line_of (gone_words names p)) (not_heading (codes "gone") (word_at names.procs p) [] (codes "made") refl)
      (ap (gone_of names) (read_back (gone_words names p) (omega arith) (gone_plain names trace header p known)) ∙ gone_of_words p known) low

  -- ---- serials

  pub made_read : (seg n : ℕ) (rd : Reading) → seg < segment_count trace → n < 2 ^ 32 → made_line names trace seg rd (line_of (made_words names seg n)) ≡ Some (add_made seg n rd)
  unfolding made_line made_of
  made_read seg n rd known small =
      rw (lt-ltb seg (segment_count trace) known, read_back (made_words names seg n) (omega arith) (made_plain names trace header seg n known small), itself (word_at (segment_names names) seg), number_read (2 ^ 32) n small (omega arith)) refl

  -- ---- objects

  reference_read : (r : Option Name) → IfSome r (IsSpelledName trace) → reference_of names (reference_word names r) ≡ Some r
  unfolding reference_of
  reference_read None spelled = refl
  reference_read (Some n) spelled = rw (not_null names n, spelled_read n spelled) refl

  content_read : (c : Content) → IsSpelledContent trace c → content_of names (field_kind c) (content_word names c) ≡ Some c
  unfolding content_of
  content_read (Refers r) spelled = ap (option_map Refers) (reference_read r spelled)
  content_read (Holds n) spelled = ap (option_map Holds) (number_read (2 ^ 64) n spelled (omega arith))

  word_behind : (front : List Text) (w : Text) (rest : List Text) → word_at (front ++ w ∷ rest) (length front) ≡ w
  word_behind [] w rest = refl
  word_behind (v ∷ front) w rest = word_behind front w rest

  contents_read : (cs : List Content) (front : List Text) (at : ℕ) → at ≡ length front → AllByRecursion (IsSpelledContent trace) cs → contents_at names (map field_kind cs) (front ++ map (content_word names) cs) at ≡ Some cs
  unfolding contents_at
  contents_read [] front at is all = rw (append-nil front, is, eq-eqb (length front) (length front) refl) refl
  contents_read (c ∷ cs) front at is all =
      let w = content_word names c in
      let here : content_of names (field_kind c) (word_at (front ++ w ∷ map (content_word names) cs) at) ≡ Some c
      = ap (λ k. content_of names (field_kind c) (word_at (front ++ w ∷ map (content_word names) cs) k)) is ∙ ap (content_of names (field_kind c)) (word_behind front w (map (content_word names) cs)) ∙ content_read c all.0 in
      let next : at + 1 ≡ length (front ++ w ∷ []) = let long = length-append front (w ∷ []) in omega (arith, is, long) in
      let rest : contents_at names (map field_kind cs) (front ++ w ∷ map (content_word names) cs) (at + 1) ≡ Some cs
      = ap (λ (ws : List Text). contents_at names (map field_kind cs) ws (at + 1)) (sym (append_assoc front (w ∷ []) (map (content_word names) cs))) ∙ contents_read cs (front ++ w ∷ []) (at + 1) next all.1 in
      rw (here, rest) refl

  type_word_read : (o : Object) → IsTyped trace o → type_of_word names o.name (type_word names o.ty) ≡ Some o.ty
  unfolding type_of_word
  type_word_read o typed = go o.ty typed.untyped typed.declared
    where
      go : (ty : Option TypeId) → is_none ty ≡ name_eq o.name directory → IfSome ty (λ t. t.0 < length trace.types) → type_of_word names o.name (type_word names ty) ≡ Some ty
      go None untyped declared = rw (← untyped) refl
      go (Some ty) untyped declared = rw (← untyped) (ap (option_map Some) (type_read names trace header ty.0 declared))

  head_read : (h : Heap) (o : Object) → IsHeap trace h → IsSpelledObject trace o → head_of names (object_words names h o) ≡ Some (record { name = o.name; owner = h; ty = o.ty })
  unfolding head_of
  head_read h o known spelled = rw (spelled_read o.name spelled.name, heap_read h known, type_word_read o spelled.typed) refl

  object_read : (h : Heap) (o : Object) → IsHeap trace h → IsSpelledObject trace o → object_of names trace (object_words names h o) ≡ Some (record { owner = h; object = o })
  unfolding object_of object_with
  object_read h o known spelled =
      let fields : contents_at names (kinds_by trace o.ty) (object_words names h o) 3 ≡ Some o.fields
      = ap (λ (ks : List Field). contents_at names ks (object_words names h o) 3) (sym spelled.typed.kinds) ∙ contents_read o.fields (name_word names o.name ∷ heap_word names h ∷ type_word names o.ty ∷ []) 3 refl spelled.fields in
      rw (head_read h o known spelled, fields) refl

  pub object_line_read : (h : Heap) (o : Object) (last : Option Name) (rd : Reading) → IsHeap trace h → IsSpelledObject trace o → IsAfter last o.name →
      graph_line names trace last rd (line_of (object_words names h o)) ≡ Some (add_object (record { owner = h; object = o }) rd)
  unfolding graph_line
  object_line_read h o last rd known spelled after =
      rw (not_heading (name_word names o.name) (heap_word names h) (type_word names o.ty ∷ map (content_word names) o.fields) (codes "roots") refl, read_back (object_words names h o) (omega arith) (object_line_plain names trace header h o known spelled), object_read h o known spelled, after_true last o.name after) refl

  -- ---- registers

  pub root_read : (p r : ℕ) (n : Name) (least : ℕ) (rd : Reading) → p < process_count trace → r < 16 → IsSpelledName trace n → least ≤ p * 16 + r →
      root_line names least rd (line_of (word_at names.procs p ∷ register_word r ∷ name_word names n ∷ [])) ≡ Some (add_root (record { process = p; register = r; name = n }) rd)
  unfolding root_line root_of
  root_read p r n least rd known small spelled low =
      rw (
        not_heading (word_at names.procs p) (register_word r) (name_word names n ∷ []) (codes "exits") refl,
        read_back (word_at names.procs p ∷ register_word r ∷ name_word names n ∷ []) (omega arith) (root_plain names trace header p r n known small spelled),
        proc_read names trace header p known,
        register_read r small,
        spelled_read n spelled,
        le-leb least (p * 16 + r) low,
      ) refl

  -- ---- exit items

  exit_after_true : (seg : ℕ) (last : Option Name) (e : ExitItem) → IsExitAfter trace seg last e → is_exit_after trace seg last e ≡ true
  exit_after_true seg last e (inl below) = or_left (nat_lt seg (segment_of trace e.heap)) _ (lt-ltb seg (segment_of trace e.heap) below)
  exit_after_true seg last e (inr same) = or_right (nat_lt seg (segment_of trace e.heap)) _ (and_from (seg == segment_of trace e.heap) (is_after last e.target) (eq-eqb seg (segment_of trace e.heap) same.0) (after_true last e.target same.1))

  pub exit_read : (e : ExitItem) (seg : ℕ) (last : Option Name) (rd : Reading) → IsSpelledExit trace e → IsExitAfter trace seg last e → exit_line names trace seg last rd (line_of (exit_words names e)) ≡ Some (add_exit trace e rd)
  unfolding exit_line exit_of
  exit_read e seg last rd spelled after =
      rw (not_heading (heap_word names e.heap) (name_word names e.target) [] (codes "shares") refl, read_back (exit_words names e) (omega arith) (exit_plain names trace header e spelled), heap_read e.heap spelled.0, spelled_read e.target spelled.1, exit_after_true seg last e after) refl

  -- ---- shares

  pub share_read : (e : Sharing) (least : ℕ) (rd : Reading) → IsSpelledShare trace e → least ≤ share_place trace e → share_line names trace least rd (line_of (share_words names e)) ≡ Some (add_share trace e rd)
  unfolding share_line share_of
  share_read e least rd spelled low =
      rw (not_heading (word_at names.procs e.process) (word_at names.shared e.heap) [] (codes "charges") refl, read_back (share_words names e) (omega arith) (share_plain names trace header e spelled), proc_read names trace header e.process spelled.0, shared_read names trace header e.heap spelled.1, le-leb least (share_place trace e) low) refl

  -- ---- charges

  kernel_words : (b c : ℕ) (rd : Reading) → b < 2 ^ 64 → c < 2 ^ 64 → kernel_line rd (kernel_charge_words b c) ≡ Some (add_kernel (record { first = b; second = c }) rd)
  unfolding kernel_line pair_at
  kernel_words b c rd small below = rw (number_read (2 ^ 64) b small (omega arith), number_read (2 ^ 64) c below (omega arith)) refl

  pub kernel_read : (b c : ℕ) (rd : Reading) → b < 2 ^ 64 → c < 2 ^ 64 → kernel_line rd (words_of (line_of (kernel_charge_words b c))) ≡ Some (add_kernel (record { first = b; second = c }) rd)
  kernel_read b c rd small below = ap (kernel_line rd) (read_back (kernel_charge_words b c) (omega arith) (kernel_plain names trace header b c small below)) ∙ kernel_words b c rd small below

  limit_words : (k m used max : ℕ) (rd : Reading) → used < 2 ^ 64 → max < 2 ^ 40 → limit_line names k m rd (limit_charge_words (word_at names.limits m) used max) ≡ Some (add_limit k (record { first = used; second = max }) rd)
  unfolding limit_line pair_at
  limit_words k m used max rd small below = rw (itself (word_at names.limits m), number_read (2 ^ 64) used small (omega arith), number_read (2 ^ 40) max below (omega arith)) refl

  pub limit_read : (k m used max : ℕ) (rd : Reading) → m < length trace.limits → used < 2 ^ 64 → max < 2 ^ 40 →
      limit_line names k m rd (words_of (line_of (limit_charge_words (word_at names.limits m) used max))) ≡ Some (add_limit k (record { first = used; second = max }) rd)
  limit_read k m used max rd known small below =
      ap (limit_line names k m rd) (read_back (limit_charge_words (word_at names.limits m) used max) (omega arith) (limit_line_plain names trace header m used max known small below)) ∙ limit_words k m used max rd small below

  process_words : (k p charge : ℕ) (rd : Reading) → charge < 2 ^ 64 → process_line names k p rd (process_charge_words (word_at names.procs p) charge) ≡ Some (add_process k charge rd)
  unfolding process_line
  process_words k p charge rd small = rw (itself (word_at names.procs p), number_read (2 ^ 64) charge small (omega arith)) refl

  pub process_read : (k p charge : ℕ) (rd : Reading) → p < process_count trace → charge < 2 ^ 64 → process_line names k p rd (words_of (line_of (process_charge_words (word_at names.procs p) charge))) ≡ Some (add_process k charge rd)
  process_read k p charge rd known small =
      ap (process_line names k p rd) (read_back (process_charge_words (word_at names.procs p) charge) (omega arith) (process_line_plain names trace header p charge known small)) ∙ process_words k p charge rd small

  phase_read : (name bytes : Text) (phase : Phase) → IsSpelledPhase trace phase → phase_of_words names (codes "shared" ∷ name ∷ bytes ∷ phase_words names phase) ≡ Some phase
  unfolding phase_of_words bare_phase phase_with phase_words
  phase_read name bytes Unmade spelled = refl
  phase_read name bytes (Populating p) spelled = ap (option_map Populating) (proc_read names trace header p.0 spelled)
  phase_read name bytes (Frozen root) spelled = ap (option_map Frozen) (spelled_read root spelled)
  phase_read name bytes Absorbed spelled = refl

  pub heap_line_read : (k s bytes : ℕ) (phase : Phase) (rd : Reading) → s < trace.shared_heaps → bytes < 2 ^ 64 → IsSpelledPhase trace phase →
      heap_line names k s rd (words_of (line_of (shared_charge_words names (word_at names.shared s) bytes phase))) ≡ Some (add_heap k bytes phase rd)
  unfolding heap_line
  heap_line_read k s bytes phase rd known small spelled =
      rw (
        read_back (shared_charge_words names (word_at names.shared s) bytes phase) (omega arith) (heap_line_plain names trace header s bytes phase known small spelled),
        itself (word_at names.shared s),
        number_read (2 ^ 64) bytes small (omega arith),
        phase_read (word_at names.shared s) (decimal bytes) phase spelled,
      ) refl
