-- A sound state stays sound where a field is written.
use Rattle.std.proofs.Common.{◌≡◌, ℕ, sym, ap, ◌∙◌, inl, inr, map, IsTrue, IsFalse}
use Rattle.std.proofs.Math.Path.{fun_ext}
use Rattle.k_types.specs.declared.names.Name.{Name}
use Rattle.k_types.specs.Names.{heap_eq, directory}
use Rattle.k_types.specs.Trace.{Trace}
use Rattle.k_types.specs.State.{State, Content, has, field_kind, content_leads_to, has_exit}
use Rattle.k_types.specs.Owners.{owner_of, bytes_of, charge_by}
use Rattle.k_types.specs.Limits.{limits_in, use_by, use_of}
use Rattle.k_types.specs.Reach.{is_entered, is_held}
use Rattle.k_types.specs.Replies.{field_at}
use Rattle.k_types.specs.Updates.{write, object_after_write}
use Rattle.k_types.specs.Sound.{IsSound, IsLegalStore}
use Rattle.k_types.proofs.Objects.{has-written, refers_in-written}
use Rattle.k_laws.proofs.Bytes.{bytes-written}
use Rattle.k_laws.proofs.Shapes.{typed-written}
use Rattle.k_types.proofs.Ordered.{ordered-written}

-- what a field may be given
pub record MayRefer (trace : Trace) (st : State) (x : Name) (i : ℕ) (c : Content) : Type 0 where
  pub kind : field_kind c ≡ field_kind (field_at st x i)
  pub there : (y : Name) → IsTrue (content_leads_to y c) → IsTrue (has st.objects y)
  pub allowed : (y : Name) → IsTrue (content_leads_to y c) → IsLegalStore (owner_of trace st x.seg.0) (owner_of trace st y.seg.0)
  pub listed : (y : Name) → IsTrue (content_leads_to y c) → IsFalse (heap_eq (owner_of trace st x.seg.0) (owner_of trace st y.seg.0)) → IsTrue (has_exit st.exits (owner_of trace st x.seg.0) y)

module _ (trace : Trace) (st : State) (x : Name) (i : ℕ) (c : Content) (sound : IsSound trace st) (may : MayRefer trace st x i c) where
  kept : (n : Name) → IsTrue (has st.objects n) → IsTrue (has (map (object_after_write x i c) st.objects) n)
  kept n there = has-written x i c st.objects n ∙ there

  back : (n : Name) → IsTrue (has (map (object_after_write x i c) st.objects) n) → IsTrue (has st.objects n)
  back n there = sym (has-written x i c st.objects n) ∙ there

  pub use-written : (m : ℕ) → use_by trace (limits_in trace st) (charge_by (bytes_of trace (write x i c st)) st.ended st.shares) m ≡ use_of trace st m
  unfolding write
  use-written m = ap (λ b. use_by trace (limits_in trace st) (charge_by b st.ended st.shares) m) (fun_ext (λ h. bytes-written (owner_of trace st) h x i c st.objects))

  pub write_sound : IsSound trace (write x i c st)
  unfolding write is_entered is_held
  write_sound = record {
    shape = record {
      sized = record { made = sound.shape.sized.made; registers = sound.shape.sized.registers; each = sound.shape.sized.each; done = sound.shape.sized.done; phases = sound.shape.sized.phases; maxima = sound.shape.sized.maxima };
      distinct_exits = sound.shape.distinct_exits;
      distinct_shares = sound.shape.distinct_shares;
      distinct_scans = sound.shape.distinct_scans;
      placed = λ n there. sound.shape.placed n (back n there);
      typed = typed-written trace x i c st.objects may.kind sound.shape.typed;
      declared = sound.shape.declared;
      known = sound.shape.known;
    };
    names = record {
      ordered = ordered-written x i c st.objects sound.names.ordered;
      numbered = λ n there. sound.names.numbered n (back n there);
    };
    no_dangling = record {
      directory = kept directory sound.no_dangling.directory;
      fields = λ a b r. kept b (elim (refers_in-written x i c st.objects a b r) [ inl before ↦ sound.no_dangling.fields a b before | inr new ↦ may.there b new.1 ]);
      registers = λ q n held. kept n (sound.no_dangling.registers q n held);
      exits = λ h n e. kept n (sound.no_dangling.exits h n e);
      scans = λ h roots n o t. kept n (sound.no_dangling.scans h roots n o t);
      frozen = λ s root e. kept root (sound.no_dangling.frozen s root e);
    };
    guarded = record {
      allowed = λ a b r. elim (refers_in-written x i c st.objects a b r) [
        | inl before ↦ sound.guarded.allowed a b before
        | inr new ↦ rw new.0 (may.allowed b new.1)
      ];
      listed = λ a b r apart. elim (refers_in-written x i c st.objects a b r) [
        | inl before ↦ sound.guarded.listed a b before apart
        | inr new ↦ rw new.0 (may.listed b new.1 (ap (λ m. heap_eq (owner_of trace st m.seg.0) (owner_of trace st b.seg.0)) (sym new.0) ∙ apart))
      ];
    };
    exits = record { leave = sound.exits.leave; allowed = sound.exits.allowed };
    gone = record { registers = sound.gone.registers; shares = sound.gone.shares; scans = sound.gone.scans; exits = sound.gone.exits; absorbed_shares = sound.gone.absorbed_shares; absorbed_exits = sound.gone.absorbed_exits };
    phases = record {
      unmade_shares = sound.phases.unmade_shares;
      unmade_objects = λ s n e there. sound.phases.unmade_objects s n e (back n there);
      populating = sound.phases.populating;
      populated = sound.phases.populated;
      frozen = sound.phases.frozen;
    };
    uses = λ m known. rw (use-written m) (sound.uses m known);
    scans = record {
      own = sound.scans.own;
      recorded = λ h roots n o there at root. sound.scans.recorded h roots n o (back n there) at root;
      none_shared = sound.scans.none_shared;
    };
  }
