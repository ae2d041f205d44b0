-- What a line was read as is spelled so.
use Rattle.std.proofs.Common.{◌≡◌, ◌∙◌, ◌&&◌, ◌==◌, ℕ, ◌+◌, ◌^◌, ◌<◌, ◌≤◌, nat_lt, Bool, true, false, cond, List, [], ◌∷◌, length, length-append, drop, map, get_or, Option, Some, None, is_none, refl, sym, ap, ap₂, subst, arith, codes, decimal, eqb-true, ltb-true}
use Rattle.std.specs.Prelude.{IfSome, option_and_then, option_map}
use Rattle.std.specs.List.{AllByRecursion}
use Rattle.std.specs.Str.{bytes_eq}
use Rattle.std.proofs.lemmas.Bool.{and_parts}
use Rattle.std.proofs.lemmas.List.{drop_more}
use Rattle.std.proofs.lemmas.List.Splits.{join_with_byte-slice_split}
use Rattle.k_types.proofs.Numbered.{drop_all}
use Rattle.k_types.specs.declared.names.Field.{Field}
use Rattle.k_types.specs.declared.names.Field.TheVariants.{Ref, Int}
use Rattle.k_types.specs.declared.names.Heap.{Heap}
use Rattle.k_types.specs.declared.names.Heap.TheVariants.{Kernel, User, Shared}
use Rattle.k_types.specs.declared.names.Name.{Name}
use Rattle.k_types.specs.declared.names.Pid.{Pid}
use Rattle.k_types.specs.declared.names.TypeId.{TypeId}
use Rattle.k_types.specs.Names.{directory, name_eq}
use Rattle.k_types.specs.Sound.{kinds_by}
use Rattle.k_types.specs.State.{Content, ExitItem, Holds, Refers, Sharing, field_kind}
use Rattle.k_types.specs.Trace.{IsHeap, Trace, process_count}
use Rattle.k_words.specs.Words.{Text, word_at, words_of}
use Rattle.k_words.specs.Numbers.{below_of, is_below, is_register, register, register_of, register_word, value}
use Rattle.k_words.specs.Names.{declares, number_of}
use Rattle.k_words.proofs.Spelled.{name_at, number_word, register_is, same}
use Rattle.k_trace.specs.Named.{DeclaredNames}
use Rattle.k_trace.specs.Numbered.{proc_named, shared_named, type_named}
use Rattle.k_trace.proofs.Pushed.{number_below}
use Rattle.k_text.specs.Named.{IsNamedHeap, heap_word, name_word, reference_word, segment_names, type_word}
use Rattle.k_text.specs.Report.{content_word, object_words}
use Rattle.k_reports.specs.Reading.{heap_named, name_of_word}
use Rattle.k_reports.proofs.Options.{branch, if_some, map_some, some_is}
use Rattle.k_reports.proofs.Segments.{some_if}
use Rattle.k_reports.proofs.SpelledWords.{read_heap_word, read_name_word, read_proc, read_shared}
use Rattle.k_audit.specs.Grammar.{IsSpelledContent, IsSpelledExit, IsSpelledName, IsSpelledObject, IsSpelledShare}
use Rattle.k_audit.specs.Lines.{exit_line as exit_words, gone_words, made_words, share_words}
use Rattle.k_audit.specs.Reading.{Owned, Root, content_of, contents_at, exit_of, gone_of, head_of, made_of, object_of, object_with, reference_of, root_of, share_of, spelled_name, type_of_word}
use Rattle.k_audit.specs.declared.objects.ObjectHead.{ObjectHead}
use Rattle.k_audit.proofs.Plainly.{IsHeader, line_of}

-- a line is the line of its words
pub line_words : (line : Text) → line_of (words_of line) ≡ line
line_words line = join_with_byte-slice_split 32 line

-- where a value follows another there is one
pub and_then_some : {A B : Type 0} (f : A → Option B) (o : Option A) (b : B) → option_and_then f o ≡ Some b → (a : A) × (o ≡ Some a) × (f a ≡ Some b)
and_then_some f None b e = absurd cc
and_then_some f (Some a) b e = (a, refl, e)

-- words of that many places
two_words : (ws : List Text) (a b : Text) → (length ws == 2) ≡ true → word_at ws 0 ≡ a → word_at ws 1 ≡ b → ws ≡ a ∷ b ∷ []
two_words [] a b long x y = absurd cc
two_words (u ∷ []) a b long x y = absurd cc
two_words (u ∷ v ∷ []) a b long x y = ap₂ (λ (s : Text) (t : Text). s ∷ t ∷ []) x y
two_words (u ∷ v ∷ w ∷ ws) a b long x y = absurd (let e = eqb-true (length (u ∷ v ∷ w ∷ ws)) 2 long in omega (arith, e))

pub three_words : (ws : List Text) (a b c : Text) → (length ws == 3) ≡ true → word_at ws 0 ≡ a → word_at ws 1 ≡ b → word_at ws 2 ≡ c → ws ≡ a ∷ b ∷ c ∷ []
three_words [] a b c long x y z = absurd cc
three_words (u ∷ []) a b c long x y z = absurd cc
three_words (u ∷ v ∷ []) a b c long x y z = absurd cc
three_words (u ∷ v ∷ w ∷ []) a b c long x y z = ap₂ (λ (s : Text) (t : List Text). s ∷ t) x (ap₂ (λ (s : Text) (t : Text). s ∷ t ∷ []) y z)
three_words (u ∷ v ∷ w ∷ t ∷ ws) a b c long x y z = absurd (let e = eqb-true (length (u ∷ v ∷ w ∷ t ∷ ws)) 3 long in omega (arith, e))

pub number_back : (bound : ℕ) (w : Text) (n : ℕ) → bound ≤ 2 ^ 64 → below_of bound w ≡ Some n → (decimal n ≡ w) × (n < bound)
number_back bound w n le e =
    let t = if_some (is_below bound w) (Some (value w)) n e in
    subst (λ (k : ℕ). (decimal k ≡ w) × (k < bound)) (some_is (value w) n t.1) (number_word bound w le t.0)

pub register_back : (w : Text) (r : ℕ) → register_of w ≡ Some r → (register_word r ≡ w) × (r < 16)
register_back w r e =
    let t = if_some (is_register w) (Some (register w)) r e in
    let parts = and_parts (get_or w 0 0 == 114) (is_below 16 (drop 1 w)) t.0 in
    let small = number_word 16 (drop 1 w) (omega arith) parts.1 in
    subst (λ (k : ℕ). (register_word k ≡ w) × (k < 16)) (some_is (register w) r t.1) (register_is w t.0, small.1)

module _ (names : DeclaredNames) (trace : Trace) (header : IsHeader names trace) where
  pub spelled_back : (w : Text) (n : Name) → spelled_name names w ≡ Some n → IsSpelledName trace n × (name_word names n ≡ w)
  unfolding spelled_name
  spelled_back w n e =
      let some = and_then_some _ (name_of_word names w) n e in
      let t = if_some (nat_lt 0 some.0.serial.0) (Some some.0) n some.2 in
      let back = read_name_word names w some.0 some.1 in
      let low = back.0.0 in
      let all = length-append names.procs names.shared in
      let procs = header.named.procs in
      let shared = header.named.shared in
      subst (λ (m : Name). IsSpelledName trace m × (name_word names m ≡ w)) (some_is some.0 n t.1)
      (record { known = omega (arith, low, all, procs, shared); from_one = ltb-true 0 some.0.serial.0 t.0; small = back.0.1 }, back.1)

  pub heap_back : (w : Text) (h : Heap) → heap_named names w ≡ Some h → IsHeap trace h × (heap_word names h ≡ w)
  heap_back w h e = let back = read_heap_word names w h e in (known h back.0, back.1)
    where
      known : (h : Heap) → IsNamedHeap names h → IsHeap trace h
      known Kernel named = tt
      known (User p) named = let procs = header.named.procs in omega (arith, named, procs)
      known (Shared s) named = let shared = header.named.shared in omega (arith, named, shared)

  pub gone_back : (ws : List Text) (p : Pid) → gone_of names ws ≡ Some p → (p.0 < process_count trace) × (ws ≡ gone_words names p.0)
  unfolding gone_of
  gone_back ws p e =
      let t = if_some ((length ws == 2) && bytes_eq (word_at ws 0) (codes "gone")) (proc_named names (word_at ws 1)) p e in
      let two = and_parts (length ws == 2) (bytes_eq (word_at ws 0) (codes "gone")) t.0 in
      let back = read_proc names (word_at ws 1) p t.1 in
      (let procs = header.named.procs in let lt = back.0 in omega (arith, procs, lt), two_words ws (codes "gone") (word_at names.procs p.0) two.0 (same (word_at ws 0) (codes "gone") two.1) (sym back.1))

  pub made_back : (seg n : ℕ) (ws : List Text) → made_of names seg ws ≡ Some n → (n < 2 ^ 32) × (ws ≡ made_words names seg n)
  unfolding made_of
  made_back seg n ws e =
      let t = if_some ((length ws == 2) && bytes_eq (word_at ws 0) (word_at (segment_names names) seg)) (below_of (2 ^ 32) (word_at ws 1)) n e in
      let two = and_parts (length ws == 2) (bytes_eq (word_at ws 0) (word_at (segment_names names) seg)) t.0 in
      let back = number_back (2 ^ 32) (word_at ws 1) n (omega arith) t.1 in
      (back.1, two_words ws (word_at (segment_names names) seg) (decimal n) two.0 (same (word_at ws 0) (word_at (segment_names names) seg) two.1) (sym back.0))

  pub exit_back : (ws : List Text) (e : ExitItem) → exit_of names ws ≡ Some e → IsSpelledExit trace e × (ws ≡ exit_words names e)
  unfolding exit_of
  exit_back ws x e =
      let t = if_some (length ws == 2) _ x e in
      let h = and_then_some _ (heap_named names (word_at ws 0)) x t.1 in
      let n = map_some _ (spelled_name names (word_at ws 1)) x h.2 in
      let heap = heap_back (word_at ws 0) h.0 h.1 in
      let target = spelled_back (word_at ws 1) n.from n.is in
      subst (λ (y : ExitItem). IsSpelledExit trace y × (ws ≡ exit_words names y)) n.made
      ((heap.0, target.0), two_words ws (heap_word names h.0) (name_word names n.from) t.0 (sym heap.1) (sym target.1))

  pub share_back : (ws : List Text) (e : Sharing) → share_of names ws ≡ Some e → IsSpelledShare trace e × (ws ≡ share_words names e)
  unfolding share_of
  share_back ws x e =
      let t = if_some (length ws == 2) _ x e in
      let p = and_then_some _ (proc_named names (word_at ws 0)) x t.1 in
      let s = map_some _ (shared_named names (word_at ws 1)) x p.2 in
      let process = read_proc names (word_at ws 0) p.0 p.1 in
      let heap = read_shared names (word_at ws 1) s.from s.is in
      let procs = header.named.procs in
      let shared = header.named.shared in
      let lt = process.0 in
      let below = heap.0 in
      subst (λ (y : Sharing). IsSpelledShare trace y × (ws ≡ share_words names y)) s.made
      ((omega (arith, lt, procs), omega (arith, below, shared)), two_words ws (word_at names.procs p.0.0) (word_at names.shared s.from.0) t.0 (sym process.1) (sym heap.1))

  -- ---- registers

  pub root_back : (ws : List Text) (root : Root) → root_of names ws ≡ Some root →
      (root.process < process_count trace) × (root.register < 16) × IsSpelledName trace root.name × (ws ≡ word_at names.procs root.process ∷ register_word root.register ∷ name_word names root.name ∷ [])
  unfolding root_of
  root_back ws root e =
      let t = if_some (length ws == 3) _ root e in
      let p = and_then_some _ (proc_named names (word_at ws 0)) root t.1 in
      let r = and_then_some _ (register_of (word_at ws 1)) root p.2 in
      let n = map_some _ (spelled_name names (word_at ws 2)) root r.2 in
      let process = read_proc names (word_at ws 0) p.0 p.1 in
      let reg = register_back (word_at ws 1) r.0 r.1 in
      let name = spelled_back (word_at ws 2) n.from n.is in
      let procs = header.named.procs in
      let lt = process.0 in
      subst (λ (y : Root). (y.process < process_count trace) × (y.register < 16) × IsSpelledName trace y.name × (ws ≡ word_at names.procs y.process ∷ register_word y.register ∷ name_word names y.name ∷ [])) n.made
      (omega (arith, lt, procs), reg.1, name.0, three_words ws (word_at names.procs p.0.0) (register_word r.0) (name_word names n.from) t.0 (sym process.1) (sym reg.0) (sym name.1))

  -- ---- objects

  reference_back : (w : Text) (r : Option Name) → reference_of names w ≡ Some r → IfSome r (IsSpelledName trace) × (reference_word names r ≡ w)
  unfolding reference_of
  reference_back w r e =
      branch (λ (x : Option Name). IfSome x (IsSpelledName trace) × (reference_word names x ≡ w)) r (bytes_eq w (codes "null")) (Some None) (option_map Some (spelled_name names w))
      (λ is made. subst (λ (x : Option Name). IfSome x (IsSpelledName trace) × (reference_word names x ≡ w)) (some_is None r made) (tt, sym (same w (codes "null") is)))
      (λ made. let m = map_some Some (spelled_name names w) r made in
      subst (λ (x : Option Name). IfSome x (IsSpelledName trace) × (reference_word names x ≡ w)) m.made (spelled_back w m.from m.is)) e

  -- a field of the kind, as its word says
  record IsField (kind : Field) (w : Text) (c : Content) : Type 0 where
    kind_is : field_kind c ≡ kind
    spelled : IsSpelledContent trace c
    word : content_word names c ≡ w

  content_back : (kind : Field) (w : Text) (c : Content) → content_of names kind w ≡ Some c → IsField kind w c
  unfolding content_of
  content_back Ref w c e =
      let m = map_some Refers (reference_of names w) c e in
      let back = reference_back w m.from m.is in
      subst (IsField Ref w) m.made (record { kind_is = refl; spelled = back.0; word = back.1 })
  content_back Int w c e =
      let m = map_some Holds (below_of (2 ^ 64) w) c e in
      let back = number_back (2 ^ 64) w m.from (omega arith) m.is in
      subst (IsField Int w) m.made (record { kind_is = refl; spelled = back.1; word = back.0 })

  -- fields of the kinds, as the words from that place on say
  record AreFields (kinds : List Field) (ws : List Text) (at : ℕ) (cs : List Content) : Type 0 where
    kinds_are : map field_kind cs ≡ kinds
    spelled : AllByRecursion (IsSpelledContent trace) cs
    words : drop at ws ≡ map (content_word names) cs
    long : length ws ≡ at + length cs

  contents_back : (kinds : List Field) (ws : List Text) (at : ℕ) (cs : List Content) → contents_at names kinds ws at ≡ Some cs → AreFields kinds ws at cs
  unfolding contents_at
  contents_back [] ws at cs e =
      let t = if_some (length ws == at) (Some []) cs e in
      let long : length ws ≡ at = eqb-true (length ws) at t.0 in
      subst (AreFields [] ws at) (some_is [] cs t.1) (record { kinds_are = refl; spelled = tt; words = drop_all ws at (omega (arith, long)); long = omega (arith, long) })
  contents_back (kind ∷ kinds) ws at cs e =
      let c = and_then_some (λ content. option_map (λ contents. content ∷ contents) (contents_at names kinds ws (at + 1))) (content_of names kind (word_at ws at)) cs e in
      let m = map_some (λ contents. c.0 ∷ contents) (contents_at names kinds ws (at + 1)) cs c.2 in
      let one = content_back kind (word_at ws at) c.0 c.1 in
      let rest = contents_back kinds ws (at + 1) m.from m.is in
      let long = rest.long in
      subst (AreFields (kind ∷ kinds) ws at) m.made
      (record {
        kinds_are = ap₂ (λ (k : Field) (ks : List Field). k ∷ ks) one.kind_is rest.kinds_are;
        spelled = (one.spelled, rest.spelled);
        words = drop_more ws at [] (omega (arith, long)) ∙ ap₂ (λ (v : Text) (vs : List Text). v ∷ vs) (sym one.word) rest.words;
        long = omega (arith, long);
      })

  -- the type that the word of an object of that name is
  record IsItsType (n : Name) (w : Text) (ty : Option TypeId) : Type 0 where
    declared : IfSome ty (λ t. t.0 < length trace.types)
    untyped : is_none ty ≡ name_eq n directory
    word : type_word names ty ≡ w

  type_back : (n : Name) (w : Text) (ty : Option TypeId) (b : Bool) → name_eq n directory ≡ b → cond b (cond (bytes_eq w (codes "directory")) (Some None) None) (option_map Some (type_named names w)) ≡ Some ty → IsItsType n w ty
  type_back n w ty true is e =
      let t = if_some (bytes_eq w (codes "directory")) (Some None) ty e in
      subst (IsItsType n w) (some_is None ty t.1) (record { declared = tt; untyped = sym is; word = sym (same w (codes "directory") t.0) })
  type_back n w ty false is e =
      let m = map_some Some (type_named names w) ty e in
      let back = read_type_word w m.from m.is in
      subst (IsItsType n w) m.made (record { declared = back.0; untyped = sym is; word = back.1 })
    where
      read_type_word : (w : Text) (t : TypeId) → type_named names w ≡ Some t → (t.0 < length trace.types) × (word_at names.types t.0 ≡ w)
      read_type_word w t e =
          let is = some_if (declares names.types w) t (record { 0 = number_of names.types w }) (sym e) in
          let types = header.named.types in
          let low = number_below names.types w is.0 in
          rw is.1 (omega (arith, types, low), name_at names.types w is.0)

  three_front : (ws : List Text) → 3 ≤ length ws → ws ≡ word_at ws 0 ∷ word_at ws 1 ∷ word_at ws 2 ∷ drop 3 ws
  three_front [] long = absurd (omega (arith, long))
  three_front (a ∷ []) long = absurd (omega (arith, long))
  three_front (a ∷ b ∷ []) long = absurd (omega (arith, long))
  three_front (a ∷ b ∷ c ∷ ws) long = refl

  -- an object with an owner, as the words say
  pub record IsOwned (ws : List Text) (o : Owned) : Type 0 where
    pub owner : IsHeap trace o.owner
    pub object : IsSpelledObject trace o.object
    pub words : ws ≡ object_words names o.owner o.object

  pub object_back : (ws : List Text) (o : Owned) → object_of names trace ws ≡ Some o → IsOwned ws o
  unfolding object_of object_with head_of type_of_word
  object_back ws o e =
      let head = and_then_some (λ head. object_with names trace head ws) (head_of names ws) o e in
      let n = and_then_some _ (spelled_name names (word_at ws 0)) head.0 head.1 in
      let h = and_then_some _ (heap_named names (word_at ws 1)) head.0 n.2 in
      let ty = map_some _ (type_of_word names n.0 (word_at ws 2)) head.0 h.2 in
      let name = spelled_back (word_at ws 0) n.0 n.1 in
      let owner = heap_back (word_at ws 1) h.0 h.1 in
      let kind = type_back n.0 (word_at ws 2) ty.from (name_eq n.0 directory) refl ty.is in
      let f = map_some _ (contents_at names (kinds_by trace head.0.ty) ws 3) o head.2 in
      let fields : AreFields (kinds_by trace ty.from) ws 3 f.from = contents_back (kinds_by trace ty.from) ws 3 f.from (ap (λ (x : ObjectHead). contents_at names (kinds_by trace x.ty) ws 3) ty.made ∙ f.is) in
      let long = fields.long in
      let made : (let x : Owned = record { owner = h.0; object = record { name = n.0; ty = ty.from; fields = f.from } } in x) ≡ o
      = ap (λ (x : ObjectHead). let y : Owned = record { owner = x.owner; object = record { name = x.name; ty = x.ty; fields = f.from } } in y) ty.made ∙ f.made in
      subst (IsOwned ws) made
      (record {
        owner = owner.0;
        object = record { name = name.0; typed = record { declared = kind.declared; untyped = kind.untyped; kinds = fields.kinds_are }; fields = fields.spelled };
        words = three_front ws (omega (arith, long))
            ∙ ap₂ (λ (a : Text) (rest : List Text). a ∷ rest) (sym name.1) (ap₂ (λ (a : Text) (rest : List Text). a ∷ rest) (sym owner.1) (ap₂ (λ (a : Text) (rest : List Text). a ∷ rest) (sym kind.word) fields.words));
      })
