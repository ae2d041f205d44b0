-- The opening state of a trace is sound.
use Rattle.std.proofs.Common.{◌≡◌, ℕ, zero, suc, ◌<◌, ◌≤◌, ◌==◌, ◌&&◌, Bool, true, false, cond, refl, inl, inr, subst, sym, ap, ◌∙◌, ◌∷◌, length, map, filter, replicate, None, Some, arith, get_or, le_trans, IsTrue}
use Rattle.std.specs.List.{list_any}
use Rattle.std.proofs.lemmas.Bool.{and_parts, or_cases, false≢true}
use Rattle.k_types.specs.declared.names.Name.{Name}
use Rattle.k_types.specs.declared.names.Field.TheVariants.{Ref}
use Rattle.k_types.specs.declared.names.Phase.TheVariants.{Unmade}
use Rattle.k_types.specs.Names.{name_eq, directory}
use Rattle.k_types.specs.Trace.{Trace, process_count, segment_count, limit_of}
use Rattle.k_types.specs.TraceRules.{AreLimits}
use Rattle.k_types.specs.State.{Object, Refers, field_kind, object_at, opening, has, refers_in, content_leads_to, in_registers}
use Rattle.k_types.specs.Owners.{owner_of, owner_of_segment, bytes_by, charge_of, phase_of}
use Rattle.k_types.specs.Numbers.{numbers_below}
use Rattle.k_types.specs.Limits.{limits_in, direct_by, use_by, use_of, max_of}
use Rattle.k_types.specs.Sound.{IsSound, IsTyped}
use Rattle.k_types.proofs.NameTests.{name_eq-true}
use Rattle.k_laws.proofs.Sizes.{opening_sized}
use Rattle.k_types.proofs.Maxima.{own_maxima}
use Rattle.k_laws.proofs.Uses.{use_less}
use Rattle.k_types.proofs.Sums.{zeros, total_at_most}
use Rattle.k_laws.proofs.SoundExited.{none_in}

pub all_unmade : (n s : ℕ) → phase_of (replicate n Unmade) s ≡ Unmade
all_unmade zero s = refl
all_unmade (suc n) zero = refl
all_unmade (suc n) (suc s) = all_unmade n s

-- so many references are of the kind of references
references : (n : ℕ) → map field_kind (replicate n (Refers None)) ≡ replicate n Ref
references zero = refl
references (suc n) = ap (λ ks. Ref ∷ ks) (references n)

none_held : (n p : ℕ) (m : Name) → in_registers (replicate n (replicate 16 None)) p m ≡ false
none_held zero p m = refl
none_held (suc n) zero m = none_in 16 m
none_held (suc n) (suc p) m = none_held n p m

no_references : (n : ℕ) (m : Name) → list_any (content_leads_to m) (replicate n (Refers None)) ≡ false
no_references zero m = refl
no_references (suc n) m = no_references n m

-- nobody is charged at first
pub charged_nothing : (trace : Trace) (p : ℕ) → charge_of trace (opening trace) p ≡ 0
unfolding bytes_by owner_of_segment
charged_nothing trace p = refl

module _ (trace : Trace) (limits : AreLimits trace) where
  only_directory : (n : Name) → IsTrue (has (opening trace).objects n) → directory ≡ n
  only_directory n t = elim (or_cases (name_eq directory n) false t) [ inl e ↦ name_eq-true directory n e | inr e ↦ absurd (false≢true e) ]

  refers_nowhere : (x y : Name) → IsTrue (refers_in (opening trace).objects x y) → ⊥
  refers_nowhere x y t =
      elim (or_cases (name_eq directory x && list_any (content_leads_to y) (replicate trace.dir_fields (Refers None))) false t) [
        | inl e ↦ false≢true (sym (no_references trace.dir_fields y) ∙ (and_parts (name_eq directory x) (list_any (content_leads_to y) (replicate trace.dir_fields (Refers None))) e).1)
        | inr e ↦ false≢true e
      ]

  held_nowhere : (p : ℕ) (n : Name) → IsTrue (in_registers (opening trace).registers p n) → ⊥
  held_nowhere p n t = false≢true (sym (none_held (process_count trace) p n) ∙ t)

  direct_nothing : (m : ℕ) → direct_by trace (charge_of trace (opening trace)) m ≤ 0
  direct_nothing m =
      let mine = filter (λ p. limit_of trace p == m) (numbers_below (process_count trace)) in
      le_trans (total_at_most (charge_of trace (opening trace)) (λ p. 0) (λ p. omega (arith, charged_nothing trace p)) mine) (omega (arith, zeros mine))

  use_fits : (m : ℕ) → m < length trace.limits → use_of trace (opening trace) m ≤ max_of (limits_in trace (opening trace)) m
  use_fits m known =
      subst (λ rows. use_by trace rows (charge_of trace (opening trace)) m ≤ max_of rows m) (sym (own_maxima trace.limits))
      (le_trans (use_less trace.limits (direct_by trace (charge_of trace (opening trace))) (λ q. 0) direct_nothing (length trace.limits) m) (limits.fits m known))

  opening_directory : Object
  opening_directory = record { name = directory; ty = None; fields = replicate trace.dir_fields (Refers None) }

  directory_typed : (n : Name) (o : Object) → object_at (opening trace).objects n ≡ Some o → IsTyped trace o
  unfolding opening_directory
  directory_typed n o found = go (name_eq directory n) found
    where
      go : (b : Bool) → cond b (Some opening_directory) None ≡ Some o → IsTyped trace o
      go false e = absurd (cc e)
      go true e = let same : opening_directory ≡ o = cc e in subst (IsTyped trace) same (record { declared = tt; untyped = refl; kinds = references trace.dir_fields })

  pub opening_sound : IsSound trace (opening trace)
  unfolding owner_of_segment
  opening_sound = record {
    shape = record {
      sized = opening_sized trace;
      distinct_exits = tt;
      distinct_shares = tt;
      distinct_scans = tt;
      placed = λ n there. subst (λ m. (0 < m.serial.0) × (m.seg.0 < segment_count trace)) (only_directory n there) (omega arith, omega arith);
      typed = λ n o found. directory_typed n o found;
      declared = record { ended = λ p e. absurd (false≢true e); populating = λ s q e. absurd (cc (all_unmade trace.shared_heaps s, e)) };
      known = record {
        referring = λ h n e. absurd (false≢true e);
        sharers = λ p s e. absurd (false≢true e);
        shared = λ p s e. absurd (false≢true e);
        scanned = λ h roots e. absurd (cc e);
      };
    };
    names = record {
      ordered = tt;
      numbered = λ n there. subst (λ m. m.serial.0 ≤ get_or (opening trace).made m.seg.0 0) (only_directory n there) (omega arith);
    };
    no_dangling = record {
      directory = refl;
      fields = λ x y r. absurd (refers_nowhere x y r);
      registers = λ p n held. absurd (held_nowhere p n held);
      exits = λ h n e. absurd (false≢true e);
      scans = λ h roots n e t. absurd (cc e);
      frozen = λ s root e. absurd (cc (all_unmade trace.shared_heaps s, e));
    };
    guarded = record { allowed = λ x y r. absurd (refers_nowhere x y r); listed = λ x y r apart. absurd (refers_nowhere x y r) };
    exits = record { leave = λ h n e. absurd (false≢true e); allowed = λ h n e. absurd (false≢true e) };
    gone = record {
      registers = λ p n ended. absurd (false≢true ended);
      shares = λ p s ended. absurd (false≢true ended);
      scans = λ p ended. absurd (false≢true ended);
      exits = λ p n ended. absurd (false≢true ended);
      absorbed_shares = λ s e. refl;
      absorbed_exits = λ s n e. refl;
    };
    phases = record {
      unmade_shares = λ s e. refl;
      unmade_objects = λ s n e there at. absurd (cc (ap (λ m. owner_of trace (opening trace) m.seg.0) (only_directory n there) ∙ at));
      populating = λ s q p e t. absurd (false≢true t);
      populated = λ s q e lives. absurd (cc (all_unmade trace.shared_heaps s, e));
      frozen = λ s root e. absurd (cc (all_unmade trace.shared_heaps s, e));
    };
    uses = use_fits;
    scans = record {
      own = λ h roots n e t. absurd (cc e);
      recorded = λ h roots n e there at root. absurd (cc e);
      none_shared = λ s. refl;
    };
  }
