-- Whether what a limit reserves fits, by the tree of limits and by the machine.
use Rattle.std.proofs.Common.{◌≡◌, ◌∙◌, ℕ, ◌<◌, ◌^◌, Bool, true, false, not, ◌||◌, List, [], ◌∷◌, ◌++◌, length, replicate, Option, Some, None, is_some, cond, ltb, refl, sym, ap, arith}
use Rattle.std.proofs.lemmas.Bool.{and_parts, ltb-true}
use Rattle.std.proofs.lemmas.List.{get_or-replicate}
use Rattle.k_limits.specs.k_types.declared.setup.LimitRow.{LimitRow}
use Rattle.k_words.specs.Words.{Text}
use Rattle.k_words.specs.Numbers.{is_number, is_below, value, below_of}
use Rattle.k_limits.specs.k_types.declared.names.LimitId.{LimitId}
use Rattle.k_limits.specs.k_types.State.{opening}
use Rattle.k_limits.specs.k_types.TraceRules.{IsTree}
use Rattle.k_limits.specs.k_types.Limits.{full_limit}
use Rattle.k_limits.specs.Limits.{charged_limits, full_at}
use Rattle.k_limits.specs.Rows.{uncharged, is_refused, first_refused}
use Rattle.k_limits.proofs.MachineUses.{machine_fulls}
use Rattle.k_limits.proofs.Fits.{AllFit, use_uncharged, fit_more, none_refused}
use Rattle.k_trace.specs.Grown.{bare_trace, fits, fits_by}
use Rattle.k_trace.specs.Outcome.{AreReserved}
use Rattle.k_reader.proofs.Steps.{root_row, limit_row}
use Rattle.k_limits.proofs.Maxima.{own_maxima}
use Rattle.k_reader.proofs.Keeps.{each_row, tree_push}

-- the full limit of the tree is that of the machine
same_full : (rows : List LimitRow) → IsTree rows → (m n : ℕ) → m < length rows → full_at (uncharged rows) m n ≡ full_limit (bare_trace rows) (opening (bare_trace rows)) m n
same_full rows tree m n known =
    ap (λ (rs : List LimitRow). full_at (charged_limits rs (replicate (length rows) 0)) m n) (sym (own_maxima rows))
    ∙ machine_fulls (bare_trace rows) (opening (bare_trace rows)) (replicate (length rows) 0) tree (λ q there. get_or-replicate (length rows) q 0 0 there) m n known

pub room_found : (rows : List LimitRow) (m n : ℕ) → AreReserved rows → m < length rows → full_at (uncharged rows) m n ≡ None → fits rows m n ≡ true
room_found rows m n are known none = ap fits_by (sym (same_full rows are.ordered.tree m n known) ∙ none)

pub no_room_found : (rows : List LimitRow) (m n q : ℕ) → AreReserved rows → m < length rows → full_at (uncharged rows) m n ≡ Some q → fits rows m n ≡ false
no_room_found rows m n q are known some = ap fits_by (sym (same_full rows are.ordered.tree m n known) ∙ some)

none_of : (rows : List LimitRow) → IsTree rows → AllFit rows → first_refused rows ≡ None
none_of rows tree fit = (none_refused rows tree).1 (λ m known. omega (arith, fit m known, use_uncharged rows m known))

fit_of : (rows : List LimitRow) → IsTree rows → first_refused rows ≡ None → AllFit rows
fit_of rows tree none m known = let h = (none_refused rows tree).0 none m known in omega (arith, h, use_uncharged rows m known)

-- a row more, which is not refused
reserved_push : (rows : List LimitRow) (row : LimitRow) → AreReserved rows → row.max < 2 ^ 40 → ((parent : LimitId) → row.parent ≡ Some parent → parent.0 < length rows)
    → is_refused (uncharged rows) row ≡ false → AreReserved (rows ++ row ∷ [])
reserved_push rows row are small known fine =
    let tree = tree_push rows row are.ordered.tree known in record {
      ordered = record { tree = tree; small = each_row (λ k r. r.max < 2 ^ 40) rows row are.ordered.small small };
      none_refused = none_of (rows ++ row ∷ []) tree (fit_more rows row tree (fit_of rows are.ordered.tree are.none_refused) fine);
    }

pub root_reserved : (rows : List LimitRow) (max : ℕ) → AreReserved rows → max < 2 ^ 40 → AreReserved (rows ++ root_row max ∷ [])
root_reserved rows max are small = reserved_push rows (root_row max) are small (λ parent is. absurd cc) refl

not_refused : (rows : List LimitRow) (parent : ℕ) (hard : Bool) (max : ℕ) → AreReserved rows → parent < length rows → (not hard || fits rows parent max) ≡ true
    → is_refused (uncharged rows) (limit_row parent hard max) ≡ false
not_refused rows parent false max are known room = refl
not_refused rows parent true max are known room = by_full (full_at (uncharged rows) parent max) (ap fits_by (same_full rows are.ordered.tree parent max known) ∙ room)
  where
    by_full : (o : Option ℕ) → fits_by o ≡ true → is_some o ≡ false
    by_full None e = refl
    by_full (Some q) e = absurd cc

pub limit_reserved : (rows : List LimitRow) (parent : ℕ) (hard : Bool) (max : ℕ) → AreReserved rows → parent < length rows → max < 2 ^ 40 → (not hard || fits rows parent max) ≡ true
    → AreReserved (rows ++ limit_row parent hard max ∷ [])
limit_reserved rows parent hard max are known small room =
    reserved_push rows (limit_row parent hard max) are small (λ p is. let e : parent ≡ p.0 = cc in omega (arith, e, known)) (not_refused rows parent hard max are known room)

-- the number that a word is, is below the bound
pub is_small : (bound n : ℕ) (w : Text) → Some n ≡ below_of bound w → n < bound
is_small bound n w e = by_test (is_below bound w) refl e
  where
    by_test : (b : Bool) → is_below bound w ≡ b → Some n ≡ cond b (Some (value w)) None → n < bound
    by_test false is e = absurd cc
    by_test true is e = let same : n ≡ value w = cc in rw same (ltb-true (value w) bound (and_parts (is_number w) (ltb (value w) bound) is).1)
