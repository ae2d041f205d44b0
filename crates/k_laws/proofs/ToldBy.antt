-- What a step reads is told by the parts of the cells that it touches and of the book.
use Rattle.std.proofs.Common.{◌≡◌, ℕ, ◌+◌, ◌<◌, nat_lt, ◌==◌, Bool, cond, refl, ap, ap₂, ◌∙◌, List, [], ◌∷◌, find, length, Some, None, get_or, arith, IsTrue, eq-eqb, ◌&&◌, ◌-◌, Option}
use Rattle.std.proofs.lemmas.Bool.{or_left, or_right}
use Rattle.k_types.specs.declared.names.Name.{Name}
use Rattle.k_types.specs.declared.names.Heap.{Heap}
use Rattle.k_types.specs.Names.{heap_eq, among}
use Rattle.k_types.specs.TraceRules.{AreLimits}
use Rattle.k_types.specs.Trace.{Trace, row_of}
use Rattle.k_types.specs.State.{State, object_at, register}
use Rattle.k_types.specs.Owners.{owner_of, user, shared, bytes_by, bytes_of}
use Rattle.k_types.specs.Limits.{full_limit, limits_in, max_of, path_of, use_of, full_above, full_for}
use Rattle.k_types.specs.Updates.{next_name}
use Rattle.k_types.specs.Cells.{part, book_part, use_shown}
use Rattle.k_laws.specs.PartUpdates.{held_in}
use Rattle.k_laws.specs.CellChanges.{given, next_name_in}
use Rattle.k_laws.specs.BookChanges.{bytes_in}
use Rattle.k_laws.specs.Told.{full_limit_in, limits_shown, full_above_in, full_for_in}
use Rattle.k_types.proofs.Charges.{path_low}
use Rattle.k_types.proofs.Maxima.{length_in, tree_in}
use Rattle.k_types.proofs.NameTests.{heap_eq-same}
use Rattle.k_types.proofs.Objects.{object_at-kept}
use Rattle.k_laws.proofs.UseShown.{use_is_shown}
use Rattle.k_types.proofs.Lists.{get_mapped}
use Rattle.k_types.specs.declared.names.LimitId.{LimitId}

-- an object is found in its owner's cell
pub object_told : (trace : Trace) (st : State) (c : Heap) (x : Name) → owner_of trace st x.seg.0 ≡ c → object_at (part trace st c).objects x ≡ object_at st.objects x
unfolding part
object_told trace st c x own =
    object_at-kept (λ n. heap_eq (owner_of trace st n.seg.0) c) st.objects x
    ∙ ap (λ b. cond b (object_at st.objects x) None) (heap_eq-same (owner_of trace st x.seg.0) c own)

pub register_told : (trace : Trace) (st : State) (p r : ℕ) → held_in (part trace st (user p)).process r ≡ register st.registers p r
unfolding part
register_told trace st p r = refl

pub bytes_told : (trace : Trace) (st : State) (c : Heap) → bytes_in (part trace st c) ≡ bytes_of trace st c
unfolding part bytes_by
bytes_told trace st c = refl

pub name_told : (trace : Trace) (st : State) (c : Heap) (seg : ℕ) → owner_of trace st seg ≡ c → next_name_in seg (part trace st c) ≡ next_name seg st
unfolding part
name_told trace st c seg own =
    ap (λ n. let name : Name = record { seg = record { 0 = seg }; serial = record { 0 = n + 1 } } in name)
    (ap given (ap (λ b. cond b (Some (get_or st.made seg 0)) None) (heap_eq-same (owner_of trace st seg) c own)))

pub shared_bytes_told : (trace : Trace) (st : State) (s : ℕ) → s < trace.shared_heaps → get_or (book_part trace st).shared_bytes s 0 ≡ bytes_of trace st (shared s)
unfolding book_part
shared_bytes_told trace st s inside = get_mapped (λ t. bytes_of trace st (shared t)) 0 trace.shared_heaps s inside ∙ ap (λ t. bytes_of trace st (shared t)) (omega arith)

-- the same search where the tests agree on what is searched
find_same : (p q : ℕ → Bool) (xs : List ℕ) → ((x : ℕ) → IsTrue (among x xs) → p x ≡ q x) → find p xs ≡ find q xs
find_same p q [] same = refl
find_same p q (x ∷ xs) same =
    ap₂ (λ b rest. cond b (Some x) rest) (same x (or_left (x == x) (among x xs) (eq-eqb x x refl))) (find_same p q xs (λ y t. same y (or_right (x == y) _ t)))

pub limit_told : (trace : Trace) → AreLimits trace → (st : State) (m n : ℕ) → m < length trace.limits → full_limit_in trace (book_part trace st) m n ≡ full_limit trace st m n
unfolding book_part
limit_told trace limits st m n known =
    find_same (λ q. nat_lt (max_of (limits_in trace st) q) (use_shown trace (book_part trace st) q + n)) (λ q. nat_lt (max_of (limits_in trace st) q) (use_of trace st q + n)) (path_of (limits_in trace st) m)
    (λ q t.
    let long = length_in trace.limits st.maxima in
    let low = path_low (limits_in trace st) (tree_in trace.limits st.maxima limits.tree) (length (limits_in trace st)) m q (omega (arith, known, long)) t in
    ap (λ used. nat_lt (max_of (limits_in trace st) q) (used + n)) (use_is_shown trace st q (omega (arith, low, known))))

-- the maximum of a limit, and the limit that is full where another maximum is asked for

pub maxima_told : (trace : Trace) (st : State) → limits_shown trace (book_part trace st) ≡ limits_in trace st
unfolding book_part
maxima_told trace st = refl

pub full_for_told : (trace : Trace) → AreLimits trace → (st : State) (m max : ℕ) → m < length trace.limits → full_for_in trace (book_part trace st) m max ≡ full_for trace st m max
full_for_told trace limits st m max known =
    ap (λ rows. cond ((row_of trace.limits m).hard && nat_lt (max_of rows m) max) (full_above_in trace (book_part trace st) (row_of trace.limits m).parent (max - max_of rows m)) None) (maxima_told trace st)
    ∙ ap (λ o. cond ((row_of trace.limits m).hard && nat_lt (max_of (limits_in trace st) m) max) o None) (above (row_of trace.limits m).parent refl)
  where
    above : (parent : Option LimitId) → (row_of trace.limits m).parent ≡ parent →
        full_above_in trace (book_part trace st) parent (max - max_of (limits_in trace st) m) ≡ full_above trace st parent (max - max_of (limits_in trace st) m)
    above None e = refl
    above (Some r) e = let lower = limits.tree m r known e in limit_told trace limits st r.0 (max - max_of (limits_in trace st) m) (omega (arith, lower, known))
