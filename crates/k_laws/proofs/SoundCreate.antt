-- A sound state stays sound where an object is made.
use Rattle.std.proofs.Common.{◌≡◌, ◌≢◌, ℕ, ◌+◌, ◌<◌, ◌≤◌, ◌⊎◌, ◌&&◌, true, false, refl, sym, ap, ◌∙◌, inl, inr, List, [], ◌∷◌, length, map, Some, None, arith, get_or, set, get_or-set_same, length-set, slice_index_or, IsTrue, le_trans}
use Rattle.std.specs.List.{list_any}
use Rattle.std.proofs.lemmas.Bool.{and_parts, or_left, or_right, or_cases, false≢true, false_from_ne_true}
use Rattle.k_types.specs.declared.names.Name.{Name}
use Rattle.k_types.specs.declared.names.Heap.{Heap}
use Rattle.k_types.specs.declared.names.Phase.TheVariants.{Unmade}
use Rattle.k_types.specs.declared.names.TypeId.{TypeId}
use Rattle.k_types.specs.declared.names.Field.{Field}
use Rattle.k_types.specs.declared.names.Field.TheVariants.{Ref, Int}
use Rattle.k_types.specs.Names.{name_eq, directory}
use Rattle.k_types.specs.Trace.{Trace, segment_count, kinds_of}
use Rattle.k_types.specs.State.{State, Object, has, refers_in, content_leads_to, scan_of, fresh}
use Rattle.k_types.specs.Owners.{owner_of, shared, phase_of}
use Rattle.k_types.specs.Limits.{limits_in, use_of, max_of}
use Rattle.k_types.specs.Reach.{is_entered, is_held}
use Rattle.k_types.specs.Updates.{create, with_object, next_name}
use Rattle.k_types.specs.Sound.{IsSound, IsTyped}
use Rattle.k_types.proofs.NameTests.{name_eq_refl, name_eq-true}
use Rattle.k_types.proofs.Objects.{has-placed, refers_in-placed}
use Rattle.k_types.proofs.Lists.{get_or-set_cases}
use Rattle.k_laws.proofs.Shapes.{kinds_fresh, typed-placed}
use Rattle.k_types.proofs.Ordered.{ordered-placed}

-- a fresh object refers to nothing
fresh_refers : (kinds : List Field) (y : Name) → list_any (content_leads_to y) (map fresh kinds) ≡ false
fresh_refers [] y = refl
fresh_refers (Ref ∷ kinds) y = fresh_refers kinds y
fresh_refers (Int ∷ kinds) y = fresh_refers kinds y

-- an object may be made in the segment
pub record MayCreate (trace : Trace) (st : State) (seg : ℕ) (ty : TypeId) (fields : List Field) : Type 0 where
  pub known : seg < segment_count trace
  pub declared : ty.0 < length trace.types
  pub kinds : fields ≡ kinds_of trace ty
  pub idle : scan_of st.scans (owner_of trace st seg) ≡ None
  pub stands : (s : ℕ) → phase_of st.phases s ≡ Unmade → owner_of trace st seg ≢ shared s
  pub fits : (m : ℕ) → m < length trace.limits → use_of trace (create seg ty fields st) m ≤ max_of (limits_in trace st) m

-- the object that is made
abbrev pub made_object : State → ℕ → TypeId → List Field → Object
made_object st seg ty kinds = record { name = next_name seg st; ty = Some ty; fields = map fresh kinds }

module _ (trace : Trace) (st : State) (seg : ℕ) (ty : TypeId) (kinds : List Field) (sound : IsSound trace st) (may : MayCreate trace st seg ty kinds) where
  is_new : has st.objects (next_name seg st) ≡ false
  is_new = false_from_ne_true _ (λ there. let low = sound.names.numbered (next_name seg st) there in absurd (omega arith))

  kept : (n : Name) → IsTrue (has st.objects n) → IsTrue (has (with_object (made_object st seg ty kinds) st.objects) n)
  kept n there = has-placed (made_object st seg ty kinds) st.objects n ∙ or_right _ _ there

  there_cases : (n : Name) → IsTrue (has (with_object (made_object st seg ty kinds) st.objects) n) → IsTrue (has st.objects n) ⊎ (next_name seg st ≡ n)
  there_cases n there =
      elim (or_cases (name_eq (next_name seg st) n) (has st.objects n) (sym (has-placed (made_object st seg ty kinds) st.objects n) ∙ there)) [
        | inl new ↦ inr (name_eq-true (next_name seg st) n new)
        | inr before ↦ inl before
      ]

  refers_before : (a b : Name) → IsTrue (refers_in (with_object (made_object st seg ty kinds) st.objects) a b) → IsTrue (refers_in st.objects a b)
  refers_before a b r =
      elim (or_cases (name_eq (next_name seg st) a && list_any (content_leads_to b) (map fresh kinds)) (refers_in st.objects a b) (sym (refers_in-placed (made_object st seg ty kinds) st.objects a b) ∙ r)) [
        | inl new ↦ absurd (false≢true (sym (fresh_refers kinds b) ∙ (and_parts (name_eq (next_name seg st) a) (list_any (content_leads_to b) (map fresh kinds)) new).1))
        | inr before ↦ before
      ]

  pub made_there : IsTrue (has (with_object (made_object st seg ty kinds) st.objects) (next_name seg st))
  made_there = has-placed (made_object st seg ty kinds) st.objects (next_name seg st) ∙ or_left _ _ (name_eq_refl (next_name seg st))

  rises : (at : ℕ) → slice_index_or st.made at 0 ≤ slice_index_or (set st.made seg (slice_index_or st.made seg 0 + 1)) at 0
  rises at = elim (get_or-set_cases st.made seg at (slice_index_or st.made seg 0 + 1) 0) [
    | inl same ↦ omega arith
    | inr here ↦ let was = ap (λ k. get_or st.made k 0) here.0 in omega arith
  ]

  highest : slice_index_or st.made seg 0 + 1 ≤ slice_index_or (set st.made seg (slice_index_or st.made seg 0 + 1)) seg 0
  highest =
      let inside : seg < length st.made = rw sound.shape.sized.made may.known in
      omega (arith, get_or-set_same st.made seg (slice_index_or st.made seg 0 + 1) 0 inside)

  made_typed : IsTyped trace (made_object st seg ty kinds)
  made_typed = record {
    declared = may.declared;
    untyped = sym (false_from_ne_true _ (λ same. false≢true (sym is_new ∙ ap (has st.objects) (name_eq-true (next_name seg st) directory same) ∙ sound.no_dangling.directory)));
    kinds = kinds_fresh kinds ∙ may.kinds;
  }

  pub create_sound : IsSound trace (create seg ty kinds st)
  unfolding create is_entered is_held
  create_sound = record {
    shape = record {
      sized = record { made = length-set st.made seg _ ∙ sound.shape.sized.made; registers = sound.shape.sized.registers; each = sound.shape.sized.each; done = sound.shape.sized.done; phases = sound.shape.sized.phases; maxima = sound.shape.sized.maxima };
      distinct_exits = sound.shape.distinct_exits;
      distinct_shares = sound.shape.distinct_shares;
      distinct_scans = sound.shape.distinct_scans;
      placed = λ n there. elim (there_cases n there) [
        | inl before ↦ sound.shape.placed n before
        | inr new ↦ rw (← new) (omega arith, may.known)
      ];
      typed = typed-placed trace (made_object st seg ty kinds) st.objects is_new made_typed sound.shape.typed;
      declared = sound.shape.declared;
      known = sound.shape.known;
    };
    names = record {
      ordered = ordered-placed (made_object st seg ty kinds) st.objects is_new sound.names.ordered;
      numbered = λ n there. elim (there_cases n there) [
        | inl before ↦ le_trans (sound.names.numbered n before) (rises n.seg.0)
        | inr new ↦ rw (← new) highest
      ];
    };
    no_dangling = record {
      directory = kept directory sound.no_dangling.directory;
      fields = λ a b r. kept b (sound.no_dangling.fields a b (refers_before a b r));
      registers = λ q n held. kept n (sound.no_dangling.registers q n held);
      exits = λ h n e. kept n (sound.no_dangling.exits h n e);
      scans = λ h roots n o t. kept n (sound.no_dangling.scans h roots n o t);
      frozen = λ s root e. kept root (sound.no_dangling.frozen s root e);
    };
    guarded = record {
      allowed = λ a b r. sound.guarded.allowed a b (refers_before a b r);
      listed = λ a b r apart. sound.guarded.listed a b (refers_before a b r) apart;
    };
    exits = record { leave = sound.exits.leave; allowed = sound.exits.allowed };
    gone = record { registers = sound.gone.registers; shares = sound.gone.shares; scans = sound.gone.scans; exits = sound.gone.exits; absorbed_shares = sound.gone.absorbed_shares; absorbed_exits = sound.gone.absorbed_exits };
    phases = record {
      unmade_shares = sound.phases.unmade_shares;
      unmade_objects = λ s n e there. elim (there_cases n there) [
        | inl before ↦ sound.phases.unmade_objects s n e before
        | inr new ↦ rw (← new) (may.stands s e)
      ];
      populating = sound.phases.populating;
      populated = sound.phases.populated;
      frozen = sound.phases.frozen;
    };
    uses = may.fits;
    scans = record {
      own = sound.scans.own;
      recorded = λ h roots n o there at root. elim (there_cases n there) [
        | inl before ↦ sound.scans.recorded h roots n o before at root
        | inr new ↦ absurd (not_scanned h roots n new at o)
      ];
      none_shared = sound.scans.none_shared;
    };
  }
    where
      not_scanned : (h : Heap) (roots : List Name) (n : Name) → next_name seg st ≡ n → owner_of trace st n.seg.0 ≡ h → scan_of st.scans h ≡ Some roots → ⊥
      not_scanned h roots n new at o =
          let same : owner_of trace st seg ≡ h = ap (λ m. owner_of trace st m.seg.0) new ∙ at in
          let none : scan_of st.scans h ≡ None = ap (scan_of st.scans) (sym same) ∙ may.idle in
          cc (none, o)
