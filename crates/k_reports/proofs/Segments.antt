-- The segment of a name.
use Rattle.std.proofs.Common.{◌≡◌, ◌+◌, Bool, true, false, cond, length, Option, Some, None, refl, sym, ap, arith, codes}
use Rattle.std.specs.Str.{bytes_eq}
use Rattle.std.proofs.lemmas.List.Folds.{list_any-append}
use Rattle.k_types.specs.declared.names.Pid.{Pid}
use Rattle.k_types.specs.declared.names.SharedId.{SharedId}
use Rattle.k_words.specs.Words.{Text}
use Rattle.k_words.specs.Names.{declares, number_of}
use Rattle.k_trace.specs.Named.{DeclaredNames}
use Rattle.k_trace.specs.Numbered.{proc_named, shared_named}
use Rattle.k_reports.specs.Reading.{segment_named}
use Rattle.k_words.proofs.Numbered.{number_first, number_behind}

pub some_if : {A : Type 0} (t : Bool) (x y : A) → (let r : Option A = Some x in r) ≡ cond t (Some y) None → (t ≡ true) × (x ≡ y)
some_if true x y e = (refl, cc)
some_if false x y e = absurd cc

pub none_if : {A : Type 0} (t : Bool) (y : A) → (let r : Option A = None in r) ≡ cond t (Some y) None → t ≡ false
none_if true y e = absurd cc
none_if false y e = refl

-- The name is a process's.
pub proc_segment : (names : DeclaredNames) (w : Text) (pid : Pid) → bytes_eq w (codes "kernel") ≡ false → Some pid ≡ proc_named names w → Some (1 + pid.0) ≡ segment_named names w
proc_segment names w pid fails e =
    let is = some_if (declares names.procs w) pid (record { 0 = number_of names.procs w }) e in
    rw (fails, list_any-append (bytes_eq w) names.procs names.shared, is.0, number_first names.procs names.shared w is.0, is.1) refl

-- The name is a shared heap's.
pub shared_segment : (names : DeclaredNames) (w : Text) (s : SharedId) → bytes_eq w (codes "kernel") ≡ false → proc_named names w ≡ None → Some s ≡ shared_named names w
    → Some (1 + length names.procs + s.0) ≡ segment_named names w
shared_segment names w s fails none e =
    let out = none_if (declares names.procs w) (record { 0 = number_of names.procs w }) (sym none) in
    let is = some_if (declares names.shared w) s (record { 0 = number_of names.shared w }) e in
    rw (fails, list_any-append (bytes_eq w) names.procs names.shared, out, is.0, number_behind names.procs names.shared w out, is.1) (ap Some (omega arith))
