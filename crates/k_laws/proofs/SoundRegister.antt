-- A sound state stays sound where a register is set.
use Rattle.std.proofs.Common.{◌≡◌, ℕ, ◌<◌, ◌⊎◌, ◌&&◌, not, true, sym, ap, ◌∙◌, inl, inr, List, [], length, Option, get_or, set, length-set, IsTrue, IsFalse}
use Rattle.std.specs.List.{list_any}
use Rattle.std.proofs.lemmas.Bool.{and_parts, and_from, or_left, or_right, or_cases, false≢true, false_from_ne_true}
use Rattle.k_types.specs.declared.names.Name.{Name}
use Rattle.k_types.specs.declared.names.Heap.{Heap}
use Rattle.k_types.specs.declared.names.Heap.TheVariants.{Kernel, User, Shared}
use Rattle.k_types.specs.Names.{heap_eq, among, leads_to}
use Rattle.k_types.specs.Trace.{Trace, process_count}
use Rattle.k_types.specs.State.{State, has, in_registers, scan_of}
use Rattle.k_types.specs.Owners.{owner_of, user, bytes_by}
use Rattle.k_types.specs.Numbers.{numbers_below}
use Rattle.k_types.specs.Reach.{is_root, is_entered, is_held, is_pinned, has_entry}
use Rattle.k_types.specs.Updates.{set_register}
use Rattle.k_types.specs.Sound.{IsSound}
use Rattle.k_types.proofs.Lists.{any_or, get_or-set_cases, any-set}
use Rattle.k_laws.proofs.Shielded.{IsShielded}

-- a register that leads to the object after the write did so before, or was written
pub in_registers-set : (registers : List (List (Option Name))) (p r : ℕ) (v : Option Name) (q : ℕ) (n : Name) →
    in_registers (set registers p (set (get_or registers p []) r v)) q n ≡ true → (in_registers registers q n ≡ true) ⊎ ((q ≡ p) × (leads_to v n ≡ true))
in_registers-set registers p r v q n h =
    elim (get_or-set_cases registers p q (set (get_or registers p []) r v) []) [
      | inl same ↦ inl (ap (list_any (λ r. leads_to r n)) (sym same) ∙ h)
      | inr here ↦
          elim (any-set (λ r. leads_to r n) (get_or registers p []) r v (ap (list_any (λ r. leads_to r n)) (sym here.1) ∙ h)) [
            | inl before ↦ inl (ap (λ k. in_registers registers k n) here.0 ∙ before)
            | inr new ↦ inr (here.0, new)
          ]
    ]

-- what a register may be given
pub record MayHold (trace : Trace) (st : State) (v : Option Name) : Type 0 where
  pub there : (n : Name) → IsTrue (leads_to v n) → IsTrue (has st.objects n)
  pub shielded : (n : Name) → IsTrue (leads_to v n) → IsShielded trace st n

module _ (trace : Trace) (st : State) (p r : ℕ) (v : Option Name) (sound : IsSound trace st) (known : p < process_count trace) (lives : IsFalse (among p st.ended)) (may : MayHold trace st v) where
  new : List (List (Option Name))
  new = set st.registers p (set (get_or st.registers p []) r v)

  pin_before : (n : Name) (q : ℕ) → (not (heap_eq (user q) (owner_of trace st n.seg.0)) && in_registers new q n) ≡ true →
      ((not (heap_eq (user q) (owner_of trace st n.seg.0)) && in_registers st.registers q n) ≡ true) ⊎ (leads_to v n ≡ true)
  unfolding new
  pin_before n q t =
      let parts = and_parts (not (heap_eq (user q) (owner_of trace st n.seg.0))) (in_registers new q n) t in
      elim (in_registers-set st.registers p r v q n parts.1) [ inl before ↦ inl (and_from _ _ parts.0 before) | inr here ↦ inr here.1 ]

  held_before : (h : Heap) (n : Name) → is_held (set_register p r v st) h n ≡ true → (is_root trace st h n ≡ true) ⊎ (leads_to v n ≡ true)
  unfolding is_held set_register
  held_before Kernel n t = inl (or_right (is_entered trace st n) _ t)
  held_before (User q) n t =
      elim (in_registers-set st.registers p r v q.0 n t) [ inl before ↦ inl (or_right (is_entered trace st n) _ before) | inr here ↦ inr here.1 ]
  held_before (Shared s) n t = absurd (false≢true t)

  -- what is a root afterwards was one before, or is what was written
  root_before : (h : Heap) (n : Name) → is_root trace (set_register p r v st) h n ≡ true → (is_root trace st h n ≡ true) ⊎ (leads_to v n ≡ true)
  unfolding is_entered is_held set_register new
  root_before h n root =
      elim (or_cases (is_entered trace (set_register p r v st) n) (is_held (set_register p r v st) h n) root) [
        | inl entered ↦
            elim (or_cases (has_entry (owner_of trace st) st.exits n) (is_pinned (process_count trace) (owner_of trace st) new n) entered) [
              | inl entry ↦ inl (or_left _ (is_held st h n) (or_left _ (is_pinned (process_count trace) (owner_of trace st) st.registers n) entry))
              | inr pinned ↦
                  elim (any_or _ (λ q. not (heap_eq (user q) (owner_of trace st n.seg.0)) && in_registers st.registers q n) (leads_to v n ≡ true) (pin_before n) (numbers_below (process_count trace)) pinned) [
                    | inl before ↦ inl (or_left _ (is_held st h n) (or_right (has_entry (owner_of trace st) st.exits n) _ before))
                    | inr leads ↦ inr leads
                  ]
            ]
        | inr held ↦ held_before h n held
      ]

  pub set_register_sound : IsSound trace (set_register p r v st)
  unfolding set_register bytes_by
  set_register_sound = record {
    shape = record {
      sized = record {
        made = sound.shape.sized.made;
        registers = length-set st.registers p _ ∙ sound.shape.sized.registers;
        each = λ q below'. elim (get_or-set_cases st.registers p q (set (get_or st.registers p []) r v) []) [
          | inl same ↦ ap length same ∙ sound.shape.sized.each q below'
          | inr here ↦ ap length here.1 ∙ length-set (get_or st.registers p []) r v ∙ sound.shape.sized.each p known
        ];
        done = sound.shape.sized.done;
        phases = sound.shape.sized.phases;
        maxima = sound.shape.sized.maxima;
      };
      distinct_exits = sound.shape.distinct_exits;
      distinct_shares = sound.shape.distinct_shares;
      distinct_scans = sound.shape.distinct_scans;
      placed = sound.shape.placed;
      typed = sound.shape.typed;
      declared = sound.shape.declared;
      known = sound.shape.known;
    };
    names = record {
      ordered = sound.names.ordered;
      numbered = sound.names.numbered;
    };
    no_dangling = record {
      directory = sound.no_dangling.directory;
      fields = sound.no_dangling.fields;
      registers = λ q n held. elim (in_registers-set st.registers p r v q n held) [ inl before ↦ sound.no_dangling.registers q n before | inr here ↦ may.there n here.1 ];
      exits = sound.no_dangling.exits;
      scans = sound.no_dangling.scans;
      frozen = sound.no_dangling.frozen;
    };
    guarded = record { allowed = sound.guarded.allowed; listed = sound.guarded.listed };
    exits = record { leave = sound.exits.leave; allowed = sound.exits.allowed };
    gone = record {
      registers = λ q n ended. false_from_ne_true _ (λ held. elim (in_registers-set st.registers p r v q n held) [
        | inl before ↦ false≢true (sym (sound.gone.registers q n ended) ∙ before)
        | inr here ↦ false≢true (sym lives ∙ ap (λ k. among k st.ended) (sym here.0) ∙ ended)
      ]);
      shares = sound.gone.shares;
      scans = sound.gone.scans;
      exits = sound.gone.exits;
      absorbed_shares = sound.gone.absorbed_shares;
      absorbed_exits = sound.gone.absorbed_exits;
    };
    phases = record { unmade_shares = sound.phases.unmade_shares; unmade_objects = sound.phases.unmade_objects; populating = sound.phases.populating; populated = sound.phases.populated; frozen = sound.phases.frozen };
    uses = sound.uses;
    scans = record {
      own = sound.scans.own;
      recorded = λ h roots n opened there at root. elim (root_before h n root) [
        | inl before ↦ sound.scans.recorded h roots n opened there at before
        | inr leads ↦ may.shielded n leads roots (ap (scan_of st.scans) at ∙ opened)
      ];
      none_shared = sound.scans.none_shared;
    };
  }
