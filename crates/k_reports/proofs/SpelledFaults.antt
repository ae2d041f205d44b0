-- A fault is read as it is spelled.
use Rattle.std.proofs.Common.{◌≡◌, ◌∙◌, ◌<◌, true, eqb, List, [], ◌∷◌, length, Option, Some, refl, sym, ap, subst, codes}
use Rattle.std.specs.Prelude.{option_map}
use Rattle.std.specs.Str.{bytes_eq}
use Rattle.std.proofs.lemmas.Bool.{eqb-true}
use Rattle.k_types.specs.declared.names.LimitId.{LimitId}
use Rattle.k_types.specs.declared.names.Pid.{Pid}
use Rattle.k_types.specs.declared.names.SharedId.{SharedId}
use Rattle.k_types.specs.declared.event.Fault.{Fault}
use Rattle.k_types.specs.declared.event.Fault.TheVariants.{Null, Foreign, NotSharer, NoField, WrongKind, Frozen, Segv, NotPopulating, NotFrozen, Taken, LimitFull, KernelFull, ProcNotBelow, LimitNotBelow, InUse}
use Rattle.k_words.specs.Words.{Text, word_at}
use Rattle.k_words.specs.Names.{declares, number_of}
use Rattle.k_words.proofs.Spelled.{same, name_at}
use Rattle.k_words.proofs.Again.{number_of-at, declares-at}
use Rattle.k_trace.specs.Named.{DeclaredNames}
use Rattle.k_trace.specs.Numbered.{limit_named, proc_named, shared_named}
use Rattle.k_reader.proofs.OpForms.{one, two}
use Rattle.k_trace.proofs.Pushed.{AreNames_front, number_below, AreNames_back}
use Rattle.k_text.specs.Named.{IsNamedFault}
use Rattle.k_text.specs.EventLines.{fault_words}
use Rattle.k_reports.specs.Spelled.{AreProper}
use Rattle.k_reports.specs.Reading.{bare_fault, fault_at, fault_of}
use Rattle.k_reports.proofs.Options.{some_is, map_some, branch, nothing}
use Rattle.k_reports.proofs.Segments.{some_if}
use Rattle.k_reports.proofs.SpelledWords.{read_proc, read_shared}

-- The words spell the fault.
abbrev pub SpellsFault : DeclaredNames → List Text → Fault → Type 0
SpellsFault names ws f = IsNamedFault names f × (fault_words names f ≡ ws)

-- A fault of one word.
bare : (names : DeclaredNames) (w k : Text) (f g : Fault) → IsNamedFault names g → fault_words names g ≡ k ∷ [] → bytes_eq w k ≡ true → (let r : Option Fault = Some g in r) ≡ Some f → SpellsFault names (w ∷ []) f
bare names w k f g named words is e = subst (SpellsFault names (w ∷ [])) (some_is g f e) (named, words ∙ ap (λ (v : Text). v ∷ []) (sym (same w k is)))

read_bare : (names : DeclaredNames) (w : Text) (f : Fault) → bare_fault w ≡ Some f → SpellsFault names (w ∷ []) f
unfolding bare_fault fault_words
read_bare names w f e =
    branch (SpellsFault names (w ∷ [])) f (bytes_eq w (codes "Null")) _ _ (bare names w (codes "Null") f Null tt refl)
    (branch (SpellsFault names (w ∷ [])) f (bytes_eq w (codes "Foreign")) _ _ (bare names w (codes "Foreign") f Foreign tt refl)
    (branch (SpellsFault names (w ∷ [])) f (bytes_eq w (codes "NoField")) _ _ (bare names w (codes "NoField") f NoField tt refl)
    (branch (SpellsFault names (w ∷ [])) f (bytes_eq w (codes "WrongKind")) _ _ (bare names w (codes "WrongKind") f WrongKind tt refl)
    (branch (SpellsFault names (w ∷ [])) f (bytes_eq w (codes "Frozen")) _ _ (bare names w (codes "Frozen") f Frozen tt refl)
    (branch (SpellsFault names (w ∷ [])) f (bytes_eq w (codes "Segv")) _ _ (bare names w (codes "Segv") f Segv tt refl)
    (branch (SpellsFault names (w ∷ [])) f (bytes_eq w (codes "KernelFull")) _ _ (bare names w (codes "KernelFull") f KernelFull tt refl)
    (nothing (SpellsFault names (w ∷ [])) f))))))) e

-- A fault of a shared heap.
shared_fault : (names : DeclaredNames) (w k name : Text) (f : Fault) (g : SharedId → Fault) → ((s : SharedId) → s.0 < length names.shared → SpellsFault names (k ∷ word_at names.shared s.0 ∷ []) (g s))
    → bytes_eq w k ≡ true → option_map g (shared_named names name) ≡ Some f → SpellsFault names (w ∷ name ∷ []) f
shared_fault names w k name f g spells is e =
    let m = map_some g (shared_named names name) f e in
    let s = read_shared names name m.from m.is in
    subst (SpellsFault names (w ∷ name ∷ [])) m.made ((spells m.from s.0).0, (spells m.from s.0).1 ∙ rw (same w k is, s.1) refl)

read_limit : (names : DeclaredNames) (w : Text) (m : LimitId) → limit_named names w ≡ Some m → (m.0 < length names.limits) × (word_at names.limits m.0 ≡ w)
read_limit names w m e =
    let is = some_if (declares names.limits w) m (record { 0 = number_of names.limits w }) (sym e) in
    rw is.1 (number_below names.limits w is.0, name_at names.limits w is.0)

-- A fault of a limit.
limit_fault : (names : DeclaredNames) (w k name : Text) (f : Fault) (g : LimitId → Fault) → ((m : LimitId) → m.0 < length names.limits → SpellsFault names (k ∷ word_at names.limits m.0 ∷ []) (g m))
    → bytes_eq w k ≡ true → option_map g (limit_named names name) ≡ Some f → SpellsFault names (w ∷ name ∷ []) f
limit_fault names w k name f g spells is e =
    let m = map_some g (limit_named names name) f e in
    let l = read_limit names name m.from m.is in
    subst (SpellsFault names (w ∷ name ∷ [])) m.made ((spells m.from l.0).0, (spells m.from l.0).1 ∙ rw (same w k is, l.1) refl)

-- A fault of a process.
proc_fault : (names : DeclaredNames) (w k name : Text) (f : Fault) (g : Pid → Fault) → ((q : Pid) → q.0 < length names.procs → SpellsFault names (k ∷ word_at names.procs q.0 ∷ []) (g q))
    → bytes_eq w k ≡ true → option_map g (proc_named names name) ≡ Some f → SpellsFault names (w ∷ name ∷ []) f
proc_fault names w k name f g spells is e =
    let m = map_some g (proc_named names name) f e in
    let q = read_proc names name m.from m.is in
    subst (SpellsFault names (w ∷ name ∷ [])) m.made ((spells m.from q.0).0, (spells m.from q.0).1 ∙ rw (same w k is, q.1) refl)

read_named : (names : DeclaredNames) (w name : Text) (f : Fault) → fault_at names w name ≡ Some f → SpellsFault names (w ∷ name ∷ []) f
unfolding fault_at fault_words
read_named names w name f e =
    branch (SpellsFault names (w ∷ name ∷ [])) f (bytes_eq w (codes "LimitFull")) _ _ (limit_fault names w (codes "LimitFull") name f LimitFull (λ m lt. (lt, refl)))
    (branch (SpellsFault names (w ∷ name ∷ [])) f (bytes_eq w (codes "NotSharer")) _ _ (shared_fault names w (codes "NotSharer") name f NotSharer (λ s lt. (lt, refl)))
    (branch (SpellsFault names (w ∷ name ∷ [])) f (bytes_eq w (codes "NotPopulating")) _ _ (shared_fault names w (codes "NotPopulating") name f NotPopulating (λ s lt. (lt, refl)))
    (branch (SpellsFault names (w ∷ name ∷ [])) f (bytes_eq w (codes "NotFrozen")) _ _ (shared_fault names w (codes "NotFrozen") name f NotFrozen (λ s lt. (lt, refl)))
    (branch (SpellsFault names (w ∷ name ∷ [])) f (bytes_eq w (codes "Taken")) _ _ (shared_fault names w (codes "Taken") name f Taken (λ s lt. (lt, refl)))
    (branch (SpellsFault names (w ∷ name ∷ [])) f (bytes_eq w (codes "ProcNotBelow")) _ _ (proc_fault names w (codes "ProcNotBelow") name f ProcNotBelow (λ q lt. (lt, refl)))
    (branch (SpellsFault names (w ∷ name ∷ [])) f (bytes_eq w (codes "LimitNotBelow")) _ _ (limit_fault names w (codes "LimitNotBelow") name f LimitNotBelow (λ m lt. (lt, refl)))
    (branch (SpellsFault names (w ∷ name ∷ [])) f (bytes_eq w (codes "InUse")) _ _ (limit_fault names w (codes "InUse") name f InUse (λ m lt. (lt, refl)))
    (nothing (SpellsFault names (w ∷ name ∷ [])) f)))))))) e

-- What is read as a fault spells it.
pub read_fault_words : (names : DeclaredNames) (ws : List Text) (f : Fault) → fault_of names ws ≡ Some f → IsNamedFault names f × (fault_words names f ≡ ws)
unfolding fault_of
read_fault_words names ws f e =
    branch (SpellsFault names ws) f (eqb (length ws) 1) _ _
    (λ is made. subst (λ (us : List Text). SpellsFault names us f) (sym (one ws (eqb-true _ _ is))) (read_bare names (word_at ws 0) f made))
    (branch (SpellsFault names ws) f (eqb (length ws) 2) _ _
    (λ is made. subst (λ (us : List Text). SpellsFault names us f) (sym (two ws (eqb-true _ _ is))) (read_named names (word_at ws 0) (word_at ws 1) f made))
    (nothing (SpellsFault names ws) f)) e

-- ---- the other way

pub shared_again : (names : DeclaredNames) (s : SharedId) → AreProper names → s.0 < length names.shared → shared_named names (word_at names.shared s.0) ≡ Some s
shared_again names s proper lt =
    let shared = AreNames_back names.procs names.shared proper.heaps in
    rw (declares-at names.shared s.0 lt, number_of-at names.shared s.0 shared.apart lt) refl

limit_again : (names : DeclaredNames) (m : LimitId) → AreProper names → m.0 < length names.limits → limit_named names (word_at names.limits m.0) ≡ Some m
limit_again names m proper lt = rw (declares-at names.limits m.0 lt, number_of-at names.limits m.0 proper.limits.apart lt) refl

proc_again : (names : DeclaredNames) (q : Pid) → AreProper names → q.0 < length names.procs → proc_named names (word_at names.procs q.0) ≡ Some q
proc_again names q proper lt =
    let procs = AreNames_front names.procs names.shared proper.heaps in
    rw (declares-at names.procs q.0 lt, number_of-at names.procs q.0 procs.apart lt) refl

-- A fault is read as it is spelled.
pub fault_words_read : (names : DeclaredNames) (f : Fault) → AreProper names → IsNamedFault names f → fault_of names (fault_words names f) ≡ Some f
unfolding fault_of bare_fault fault_at fault_words
fault_words_read names Null proper h = refl
fault_words_read names Foreign proper h = refl
fault_words_read names (NotSharer s) proper h = ap (option_map NotSharer) (shared_again names s proper h)
fault_words_read names NoField proper h = refl
fault_words_read names WrongKind proper h = refl
fault_words_read names Frozen proper h = refl
fault_words_read names Segv proper h = refl
fault_words_read names (NotPopulating s) proper h = ap (option_map NotPopulating) (shared_again names s proper h)
fault_words_read names (NotFrozen s) proper h = ap (option_map NotFrozen) (shared_again names s proper h)
fault_words_read names (Taken s) proper h = ap (option_map Taken) (shared_again names s proper h)
fault_words_read names (LimitFull m) proper h = ap (option_map LimitFull) (limit_again names m proper h)
fault_words_read names KernelFull proper h = refl
fault_words_read names (ProcNotBelow q) proper h = ap (option_map ProcNotBelow) (proc_again names q proper h)
fault_words_read names (LimitNotBelow m) proper h = ap (option_map LimitNotBelow) (limit_again names m proper h)
fault_words_read names (InUse m) proper h = ap (option_map InUse) (limit_again names m proper h)
