-- A sound state whose numbers are in range is one that a snapshot's text can say.
use Rattle.std.proofs.Common.{◌≡◌, ◌∙◌, ◌&&◌, ◌==◌, ℕ, zero, suc, ◌-◌, ◌^◌, ◌<◌, ◌≤◌, nat_le, true, false, cond, List, [], ◌∷◌, map, length, get_or, Option, refl, sym, ap, subst, arith, eq-eqb, leb-true, leb-false}
use Rattle.std.specs.Prelude.{IfSome}
use Rattle.std.specs.List.{AllByRecursion, list_any}
use Rattle.std.proofs.lemmas.Bool.{and_from, eqb-false, or_left, or_right}
use Rattle.std.proofs.lemmas.List.{length-map, length-replicate}
use Rattle.k_types.specs.declared.names.Heap.{Heap}
use Rattle.k_types.specs.declared.names.Heap.TheVariants.{Kernel}
use Rattle.k_types.specs.declared.names.Name.{Name}
use Rattle.k_types.specs.declared.names.Phase.{Phase}
use Rattle.k_types.specs.declared.names.Phase.TheVariants.{Unmade, Populating, Frozen, Absorbed}
use Rattle.k_types.specs.Limits.{use_of}
use Rattle.k_types.specs.Names.{among, heap_eq, leads_to, name_eq}
use Rattle.k_types.specs.Numbers.{numbers_below}
use Rattle.k_types.specs.Owners.{bytes_of, charge_of, is_absorbed, owner_of, owner_of_process, owner_of_segment, owner_of_shared, phase_of, shared, user}
use Rattle.k_types.specs.Sound.{IsSound, IsTyped}
use Rattle.k_types.specs.State.{Content, ExitItem, Holds, Object, Refers, Sharing, State, content_leads_to, has, has_exit, has_share, refers}
use Rattle.k_types.specs.Trace.{IsHeap, Trace, process_count, segment_count}
use Rattle.k_types.proofs.Lists.{if_some, numbers_length}
use Rattle.k_types.proofs.NameTests.{heap_eq_refl, name_eq_refl}
use Rattle.k_types.proofs.Objects.{found_name, has_found, refers_found}
use Rattle.k_audit.specs.Claims.{claims_of, exits_in_order, shares_in_order, still}
use Rattle.k_audit.specs.Grammar.{AreSpelledClaims, IsSpelledContent, IsSpelledExit, IsSpelledName, IsSpelledObject, IsSpelledPhase, IsSpelledShare, IsSpelledState}
use Rattle.k_audit.specs.Ranges.{HoldsNumber, IsInRange}
use Rattle.k_audit.proofs.Rising.{ended_known, ended_rise, exits_rise, shares_rise}
use Rattle.k_audit.proofs.Stilled.{exit_same, share_same}
pub use Rattle.k_types.proofs.Ordered.{all_found}

-- ---- lists

pub by_place : {A : Type 0} (P : A → Type 0) (d : A) (xs : List A) → ((i : ℕ) → i < length xs → P (get_or xs i d)) → AllByRecursion P xs
by_place P d [] each = tt
by_place P d (x ∷ xs) each = (each zero (omega arith), by_place P d xs (λ i inside. each (suc i) (omega (arith, inside))))

pub at_place : {A : Type 0} (P : A → Type 0) (d : A) (xs : List A) (i : ℕ) → P d → AllByRecursion P xs → P (get_or xs i d)
at_place P d [] zero other all = other
at_place P d [] (suc i) other all = other
at_place P d (x ∷ xs) zero other all = all.0
at_place P d (x ∷ xs) (suc i) other all = at_place P d xs i other all.1

-- what holds of two lists' elements holds of both of each
both_all : {A : Type 0} (P Q R : A → Type 0) → ((x : A) → P x → Q x → R x) → (xs : List A) → AllByRecursion P xs → AllByRecursion Q xs → AllByRecursion R xs
both_all P Q R both [] p q = tt
both_all P Q R both (x ∷ xs) p q = (both x p.0 q.0, both_all P Q R both xs p.1 q.1)

-- what holds of all that registers hold
held : (P : Name → Type 0) (rs : List (Option Name)) → ((n : Name) → list_any (λ r. leads_to r n) rs ≡ true → P n) → AllByRecursion (λ r. IfSome r P) rs
held P [] each = tt
held P (r ∷ rs) each = (
  if_some P r (λ n is. each n (or_left (leads_to r n) (list_any (λ s. leads_to s n) rs) (ap (λ (s : Option Name). leads_to s n) is ∙ name_eq_refl n))),
  held P rs (λ n there. each n (or_right (leads_to r n) (list_any (λ s. leads_to s n) rs) there)),
)

all_exits : (P : ExitItem → Type 0) (xs : List ExitItem) → ((h : Heap) (n : Name) → has_exit xs h n ≡ true → P (record { heap = h; target = n })) → AllByRecursion P xs
all_exits P [] each = tt
all_exits P (e ∷ xs) each = (
  each e.heap e.target (or_left (heap_eq e.heap e.heap && name_eq e.target e.target) (has_exit xs e.heap e.target) (and_from (heap_eq e.heap e.heap) (name_eq e.target e.target) (heap_eq_refl e.heap) (name_eq_refl e.target))),
  all_exits P xs (λ h n there. each h n (or_right (heap_eq e.heap h && name_eq e.target n) (has_exit xs h n) there)),
)

all_shares : (P : Sharing → Type 0) (xs : List Sharing) → ((p s : ℕ) → has_share xs p s ≡ true → P (record { process = p; heap = s })) → AllByRecursion P xs
all_shares P [] each = tt
all_shares P (e ∷ xs) each = (
  each e.process e.heap (or_left ((e.process == e.process) && (e.heap == e.heap)) (has_share xs e.process e.heap) (and_from (e.process == e.process) (e.heap == e.heap) (eq-eqb e.process e.process refl) (eq-eqb e.heap e.heap refl))),
  all_shares P xs (λ p s there. each p s (or_right ((e.process == p) && (e.heap == s)) (has_share xs p s) there)),
)

-- ---- the state

module _ (trace : Trace) (st : State) (sound : IsSound trace st) (range : IsInRange trace st) where
  spelled_name : (n : Name) → has st.objects n ≡ true → IsSpelledName trace n
  spelled_name n there =
      let place = sound.shape.placed n there in
      let most = sound.names.numbered n there in
      let given = at_place (λ k. k < 2 ^ 32) 0 st.made n.seg.0 (omega arith) range.made in
      record { known = place.1; from_one = place.0; small = omega (arith, most, given) }

  -- a field that is spelled, from what it leads to and the number that it holds
  spelled_content : (c : Content) → ((n : Name) → content_leads_to n c ≡ true → has st.objects n ≡ true) → HoldsNumber c → IsSpelledContent trace c
  spelled_content (Refers r) leads small = if_some (IsSpelledName trace) r (λ n is. spelled_name n (leads n (ap (λ (s : Option Name). leads_to s n) is ∙ name_eq_refl n)))
  spelled_content (Holds number) leads small = small

  spelled_fields : (cs : List Content) → ((n : Name) → list_any (content_leads_to n) cs ≡ true → has st.objects n ≡ true) → AllByRecursion HoldsNumber cs → AllByRecursion (IsSpelledContent trace) cs
  spelled_fields [] leads small = tt
  spelled_fields (c ∷ cs) leads small = (
    spelled_content c (λ n there. leads n (or_left (content_leads_to n c) (list_any (content_leads_to n) cs) there)) small.0,
    spelled_fields cs (λ n there. leads n (or_right (content_leads_to n c) (list_any (content_leads_to n) cs) there)) small.1,
  )

  -- what is found is spelled, but for the numbers in its fields
  record IsPlacedObject (o : Object) : Type 0 where
    name : IsSpelledName trace o.name
    typed : IsTyped trace o
    leads : (n : Name) → refers o n ≡ true → has st.objects n ≡ true

  placed_objects : AllByRecursion IsPlacedObject st.objects
  placed_objects =
      all_found IsPlacedObject st.objects
      (λ n o at. record {
        name = subst (IsSpelledName trace) (sym (found_name st.objects n o at)) (spelled_name n (has_found st.objects n o at));
        typed = sound.shape.typed n o at;
        leads = λ m there. sound.no_dangling.fields n m (refers_found st.objects n m o at there);
      }) sound.names.ordered

  spelled_objects : AllByRecursion (IsSpelledObject trace) st.objects
  spelled_objects =
      both_all IsPlacedObject (λ o. AllByRecursion HoldsNumber o.fields) (IsSpelledObject trace)
      (λ o placed small. record { name = placed.name; typed = placed.typed; fields = spelled_fields o.fields placed.leads small })
      st.objects placed_objects range.fields

  spelled_registers : AllByRecursion (AllByRecursion (λ r. IfSome r (IsSpelledName trace))) st.registers
  spelled_registers =
      by_place (AllByRecursion (λ r. IfSome r (IsSpelledName trace))) [] st.registers
      (λ p inside. held (IsSpelledName trace) (get_or st.registers p []) (λ n there. spelled_name n (sound.no_dangling.registers p n there)))

  spelled_exits : AllByRecursion (IsSpelledExit trace) (exits_in_order trace st)
  spelled_exits =
      all_exits (IsSpelledExit trace) (exits_in_order trace st)
      (λ h n there. let is = sym (exit_same trace st sound h n) ∙ there in (sound.shape.known.referring h n is, spelled_name n (sound.no_dangling.exits h n is)))

  spelled_shares : AllByRecursion (IsSpelledShare trace) (shares_in_order trace st)
  spelled_shares =
      all_shares (IsSpelledShare trace) (shares_in_order trace st)
      (λ p s there. let is = sym (share_same trace st sound p s) ∙ there in (sound.shape.known.sharers p s is, sound.shape.known.shared p s is))

  spelled_phase : (s : ℕ) (phase : Phase) → phase_of st.phases s ≡ phase → IsSpelledPhase trace phase
  spelled_phase s Unmade is = tt
  spelled_phase s (Populating p) is = sound.shape.declared.populating s p is
  spelled_phase s (Frozen root) is = spelled_name root (sound.no_dangling.frozen s root is)
  spelled_phase s Absorbed is = tt

  pub spelled_state : IsSpelledState trace (still trace st)
  spelled_state = record {
    sized = record {
      made = sound.shape.sized.made;
      registers = sound.shape.sized.registers;
      each = sound.shape.sized.each;
      done = length-replicate (process_count trace) 0;
      phases = sound.shape.sized.phases;
      maxima = sound.shape.sized.maxima;
    };
    ended = ended_rise trace st;
    ended_known = ended_known trace st;
    made = range.made;
    ordered = sound.names.ordered;
    objects = spelled_objects;
    registers = spelled_registers;
    exits_ordered = exits_rise trace st;
    exits = spelled_exits;
    shares_ordered = shares_rise trace st;
    shares = spelled_shares;
    maxima = range.maxima;
    phases = by_place (IsSpelledPhase trace) Unmade st.phases (λ s inside. spelled_phase s (phase_of st.phases s) refl);
    done = refl;
    scans = refl;
    closed = refl;
  }

  -- ---- the claims

  owner_known : (segment : ℕ) → segment < segment_count trace → IsHeap trace (owner_of trace st segment)
  unfolding owner_of_segment
  owner_known segment inside =
      (elim (segment == 0) as (λ b. (segment == 0) ≡ b → IsHeap trace (cond b Kernel (cond (nat_le segment (process_count trace)) (owner_of_process st.ended (segment - 1)) (owner_of_shared st.phases (segment - 1 - process_count trace))))) [
        | true ↦ λ first. tt
        | false ↦ λ later.
            let above : segment ≡ 0 → ⊥ = eqb-false segment 0 later in
            (elim (nat_le segment (process_count trace)) as (λ b. nat_le segment (process_count trace) ≡ b → IsHeap trace (cond b (owner_of_process st.ended (segment - 1)) (owner_of_shared st.phases (segment - 1 - process_count trace)))) [
              | true ↦ λ low. of_process (segment - 1) (let le = leb-true segment (process_count trace) low in below segment (process_count trace) above le)
              | false ↦ λ high. of_shared (segment - 1 - process_count trace) (let gt = leb-false segment (process_count trace) high in omega (arith, inside, gt))
            ]) refl
      ]) refl
    where
      below : (k n : ℕ) → (k ≡ 0 → ⊥) → k ≤ n → k - 1 < n
      below zero n above le = absurd (above refl)
      below (suc k) n above le = omega (arith, le)

      of_process : (p : ℕ) → p < process_count trace → IsHeap trace (owner_of_process st.ended p)
      of_process p inside = elim (among p st.ended) as (λ b. IsHeap trace (cond b Kernel (user p))) [ true ↦ tt | false ↦ inside ]

      of_shared : (s : ℕ) → s < trace.shared_heaps → IsHeap trace (owner_of_shared st.phases s)
      of_shared s inside = elim (is_absorbed (phase_of st.phases s)) as (λ b. IsHeap trace (cond b Kernel (shared s))) [ true ↦ tt | false ↦ inside ]

  owners_known : (objects : List Object) → AllByRecursion IsPlacedObject objects → AllByRecursion (IsHeap trace) (map (λ o. owner_of trace st o.name.seg.0) objects)
  owners_known [] all = tt
  owners_known (o ∷ objects) all = (owner_known o.name.seg.0 all.0.name.known, owners_known objects all.1)

  long_as : (f : ℕ → ℕ) (n : ℕ) → length (map f (numbers_below n)) ≡ n
  long_as f n = length-map (numbers_below n) f ∙ numbers_length 0 n

  pub spelled_claims : AreSpelledClaims trace st.objects (claims_of trace st)
  spelled_claims = record {
    owners = length-map st.objects (λ o. owner_of trace st o.name.seg.0);
    owners_known = owners_known st.objects placed_objects;
    kernel = range.claims.kernel;
    ceiling = range.claims.ceiling;
    uses = long_as (use_of trace st) (length trace.limits);
    uses_small = range.claims.uses;
    charges = long_as (charge_of trace st) (process_count trace);
    charges_small = range.claims.charges;
    shared_bytes = long_as (λ s. bytes_of trace st (shared s)) trace.shared_heaps;
    shared_small = range.claims.shared_bytes;
  }
