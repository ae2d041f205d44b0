-- The parts of all cells and of the book determine a sound state.
use Rattle.std.proofs.Common.{◌≡◌, ℕ, suc, ◌-◌, ◌<◌, ◌==◌, cond, nat_le, Bool, true, false, refl, sym, ap, ap₂, ◌∙◌, subst, List, [], ◌∷◌, length, filter, Option, Some, None, arith, get_or, IsTrue}
use Rattle.std.proofs.lemmas.Bool.Decides.{nat_tests}
use Rattle.std.proofs.Math.Path.{fun_ext}
use Rattle.std.proofs.lemmas.Bool.{or_left, or_right}
use Rattle.k_types.specs.declared.names.Heap.TheVariants.{Kernel}
use Rattle.k_types.specs.declared.names.Name.{Name}
use Rattle.k_types.specs.declared.names.Heap.{Heap}
use Rattle.k_types.specs.declared.names.Phase.{Phase}
use Rattle.k_types.specs.Names.{name_lt, heap_eq, among}
use Rattle.k_types.specs.Trace.{Trace, process_count, segment_count, IsHeap}
use Rattle.k_types.specs.State.{State, Object, has, has_exit, scan_of}
use Rattle.k_types.specs.Owners.{owner_of, objects_of, owner_of_segment, owner_of_shared, user}
use Rattle.k_types.specs.Cells.{CellPart, BookPart, ProcessPart, part, book_part}
use Rattle.k_types.specs.Sound.{IsSound, IsOrdered, IsOrderedFrom}
use Rattle.k_laws.specs.Parts.{SameParts, SameState}
use Rattle.k_types.proofs.NameTests.{name_eq_refl, heap_eq-true, heap_eq_refl, name_lt_trans}
use Rattle.k_types.proofs.Lists.{some_one}
use Rattle.k_types.proofs.Tests.{same_test}
use Rattle.k_types.proofs.Ordered.{ordered_tail}
use Rattle.k_types.proofs.Owners.{owner_known}

-- lists of one length with the same elements
list_same : {A : Type 0} (d : A) (xs ys : List A) → length xs ≡ length ys → ((k : ℕ) → k < length xs → get_or xs k d ≡ get_or ys k d) → xs ≡ ys
list_same d [] [] long same = refl
list_same d [] (y ∷ ys) long same = absurd (omega (arith, long))
list_same d (x ∷ xs) [] long same = absurd (omega (arith, long))
list_same d (x ∷ xs) (y ∷ ys) long same =
    ap₂ (λ z zs. z ∷ zs) (same 0 (omega arith)) (list_same d xs ys (omega (arith, long)) (λ k inside. same (suc k) (omega (arith, inside))))

head_one : {A : Type 0} (x y : A) (xs ys : List A) → x ∷ xs ≡ y ∷ ys → x ≡ y
head_one x y xs ys e = cc e

tail_one : {A : Type 0} (x y : A) (xs ys : List A) → x ∷ xs ≡ y ∷ ys → xs ≡ ys
tail_one x y xs ys e = cc e

name_lt_one_way : (a b : Name) → IsTrue (name_lt a b) → IsTrue (name_lt b a) → ⊥
name_lt_one_way a b s t = grind (arith, nat_tests)

-- what is kept of objects after a name comes after it
kept_after : (p : Object → Bool) (m : Name) (xs : List Object) (x : Object) (rest : List Object) → IsOrderedFrom m xs → filter p xs ≡ x ∷ rest → IsTrue (name_lt m x.name)
kept_after p m [] x rest ordered e = absurd (cc e)
kept_after p m (y ∷ xs) x rest ordered e =
    elim (p y) as (λ b. cond b (y ∷ filter p xs) (filter p xs) ≡ x ∷ rest → IsTrue (name_lt m x.name)) [
      | true ↦ λ e. ap (λ (o : Object). name_lt m o.name) (sym (head_one y x (filter p xs) rest e)) ∙ ordered.0
      | false ↦ λ e. name_lt_trans m y.name x.name ordered.0 (kept_after p y.name xs x rest ordered.1 e)
    ] e

-- ordered objects are told by those of each owner
module _ (own : ℕ → Heap) where
  of : Heap → Object → Bool
  of h o = heap_eq (own o.name.seg.0) h

  mine : (x : Object) → of (own x.name.seg.0) x ≡ true
  unfolding of
  mine x = heap_eq_refl (own x.name.seg.0)

  first_kept : (x : Object) (xs : List Object) → filter (of (own x.name.seg.0)) (x ∷ xs) ≡ x ∷ filter (of (own x.name.seg.0)) xs
  first_kept x xs = ap (λ b. cond b (x ∷ filter (of (own x.name.seg.0)) xs) (filter (of (own x.name.seg.0)) xs)) (mine x)

  -- the first objects are one: else each would come after the other
  first_same : (x y : Object) (xs ys : List Object) → IsOrderedFrom x.name xs → IsOrderedFrom y.name ys →
      filter (of (own x.name.seg.0)) (x ∷ xs) ≡ filter (of (own x.name.seg.0)) (y ∷ ys) →
      filter (of (own y.name.seg.0)) (x ∷ xs) ≡ filter (of (own y.name.seg.0)) (y ∷ ys) → x ≡ y
  first_same x y xs ys ox oy at_x at_y =
      go (of (own x.name.seg.0) y) refl (sym (sym (first_kept x xs) ∙ at_x)) (of (own y.name.seg.0) x) refl (at_y ∙ first_kept y ys)
    where
      go : (b : Bool) → of (own x.name.seg.0) y ≡ b → cond (of (own x.name.seg.0) y) (y ∷ filter (of (own x.name.seg.0)) ys) (filter (of (own x.name.seg.0)) ys) ≡ x ∷ filter (of (own x.name.seg.0)) xs →
          (c : Bool) → of (own y.name.seg.0) x ≡ c → cond (of (own y.name.seg.0) x) (x ∷ filter (of (own y.name.seg.0)) xs) (filter (of (own y.name.seg.0)) xs) ≡ y ∷ filter (of (own y.name.seg.0)) ys → x ≡ y
      go true b_is left c c_is right =
          sym (head_one y x _ _ (sym (ap (λ b. cond b (y ∷ filter (of (own x.name.seg.0)) ys) (filter (of (own x.name.seg.0)) ys)) b_is) ∙ left))
      go false b_is left true c_is right =
          head_one x y _ _ (sym (ap (λ b. cond b (x ∷ filter (of (own y.name.seg.0)) xs) (filter (of (own y.name.seg.0)) xs)) c_is) ∙ right)
      go false b_is left false c_is right =
          absurd (name_lt_one_way y.name x.name
          (kept_after (of (own x.name.seg.0)) y.name ys x _ oy (sym (ap (λ b. cond b (y ∷ filter (of (own x.name.seg.0)) ys) (filter (of (own x.name.seg.0)) ys)) b_is) ∙ left))
          (kept_after (of (own y.name.seg.0)) x.name xs y _ ox (sym (ap (λ b. cond b (x ∷ filter (of (own y.name.seg.0)) xs) (filter (of (own y.name.seg.0)) xs)) c_is) ∙ right)))

  rest_same : (h : Heap) (x : Object) (xs ys : List Object) → filter (of h) (x ∷ xs) ≡ filter (of h) (x ∷ ys) → filter (of h) xs ≡ filter (of h) ys
  rest_same h x xs ys =
      elim (of h x) as (λ b. cond b (x ∷ filter (of h) xs) (filter (of h) xs) ≡ cond b (x ∷ filter (of h) ys) (filter (of h) ys) → filter (of h) xs ≡ filter (of h) ys) [
        | true ↦ λ e. tail_one x x (filter (of h) xs) (filter (of h) ys) e
        | false ↦ λ e. e
      ]

  objects_same : (xs ys : List Object) → IsOrdered xs → IsOrdered ys → ((h : Heap) → filter (of h) xs ≡ filter (of h) ys) → xs ≡ ys
  objects_same [] [] ox oy same = refl
  objects_same [] (y ∷ ys) ox oy same = absurd (cc (same (own y.name.seg.0) ∙ first_kept y ys))
  objects_same (x ∷ xs) [] ox oy same = absurd (cc (sym (same (own x.name.seg.0)) ∙ first_kept x xs))
  objects_same (x ∷ xs) (y ∷ ys) ox oy same =
      let one = first_same x y xs ys ox oy (same (own x.name.seg.0)) (same (own y.name.seg.0)) in
      ap₂ (λ z zs. z ∷ zs) one
      (objects_same xs ys (ordered_tail x.name xs ox) (ordered_tail y.name ys oy)
      (λ h. rest_same h x xs ys (same h ∙ ap (λ z. filter (of h) (z ∷ ys)) (sym one))))

owners_same : (procs : ℕ) (ended ended' : List ℕ) (phases phases' : List Phase) → ((p : ℕ) → among p ended ≡ among p ended') → phases ≡ phases' → (seg : ℕ) →
    owner_of_segment procs ended phases seg ≡ owner_of_segment procs ended' phases' seg
unfolding owner_of_segment
owners_same procs ended ended' phases phases' same e seg =
    ap₂ (λ p s. cond (seg == 0) Kernel (cond (nat_le seg procs) p s)) (ap (λ b. cond b Kernel (user (seg - 1))) (same (seg - 1))) (ap (λ f. owner_of_shared f (seg - 1 - procs)) e)

-- what the book's part tells of who has ended, of phases and of owners
module _ (trace : Trace) (st su : State) (book : book_part trace st ≡ book_part trace su) where
  pub ended_same : (p : ℕ) → among p st.ended ≡ among p su.ended
  unfolding book_part
  ended_same p = ap (λ (b : BookPart). b.ended p) book

  pub phases_same : st.phases ≡ su.phases
  unfolding book_part
  phases_same = ap (λ (b : BookPart). b.phases) book

  pub owner_same : (seg : ℕ) → owner_of trace st seg ≡ owner_of trace su seg
  owner_same seg = owners_same (process_count trace) st.ended su.ended st.phases su.phases ended_same phases_same seg

module _ (trace : Trace) (st su : State) (sound : IsSound trace st) (sound' : IsSound trace su) (same : SameParts trace st su) where
  made_same : st.made ≡ su.made
  unfolding part
  made_same =
      list_same 0 st.made su.made (sound.shape.sized.made ∙ sym sound'.shape.sized.made) (λ k inside.
      let known : k < segment_count trace = subst (λ n. k < n) sound.shape.sized.made inside in
      let c = owner_of trace st k in
      let both = ap (λ (q : CellPart). q.made k) (same.cells c (owner_known trace st k known)) in
      let left = ap (λ b. cond b (Some (get_or st.made k 0)) None) (heap_eq_refl c) in
      let right = ap (λ b. cond b (Some (get_or su.made k 0)) None) (ap (λ g. heap_eq g c) (sym (owner_same trace st su same.book k)) ∙ heap_eq_refl c) in
      some_one (sym left ∙ both ∙ right))

  process_same : (p : ℕ) → p < process_count trace → (get_or st.registers p [] ≡ get_or su.registers p []) × (get_or st.done p 0 ≡ get_or su.done p 0)
  unfolding part
  process_same p known =
      let both = ap (λ (q : CellPart). q.process) (same.cells (user p) known) in
      let one = some_one {A = ProcessPart} both in
      (ap (λ (q : ProcessPart). q.registers) one, ap (λ (q : ProcessPart). q.done) one)

  registers_same : st.registers ≡ su.registers
  registers_same = list_same [] st.registers su.registers (sound.shape.sized.registers ∙ sym sound'.shape.sized.registers) (λ k inside. (process_same k (subst (λ n. k < n) sound.shape.sized.registers inside)).0)

  done_same : st.done ≡ su.done
  done_same = list_same 0 st.done su.done (sound.shape.sized.done ∙ sym sound'.shape.sized.done) (λ k inside. (process_same k (subst (λ n. k < n) sound.shape.sized.done inside)).1)

  exit_at : (h : Heap) (n : Name) → IsHeap trace h → has_exit st.exits h n ≡ has_exit su.exits h n
  unfolding part
  exit_at h n known = ap (λ (q : CellPart). q.exits n) (same.cells h known)

  exits_same : (h : Heap) (n : Name) → has_exit st.exits h n ≡ has_exit su.exits h n
  exits_same h n =
      same_test (has_exit st.exits h n) (has_exit su.exits h n)
      (λ t. sym (exit_at h n (sound.shape.known.referring h n t)) ∙ t)
      (λ t. exit_at h n (sound'.shape.known.referring h n t) ∙ t)

  scan_at : (h : Heap) → IsHeap trace h → scan_of st.scans h ≡ scan_of su.scans h
  unfolding part
  scan_at h known = ap (λ (q : CellPart). q.scan) (same.cells h known)

  scans_same : (h : Heap) → scan_of st.scans h ≡ scan_of su.scans h
  scans_same h = go (scan_of st.scans h) (scan_of su.scans h) refl refl
    where
      go : (a b : Option (List Name)) → scan_of st.scans h ≡ a → scan_of su.scans h ≡ b → scan_of st.scans h ≡ scan_of su.scans h
      go (Some rs) b e f = scan_at h (sound.shape.known.scanned h rs e)
      go None (Some rs) e f = scan_at h (sound'.shape.known.scanned h rs f)
      go None None e f = e ∙ sym f

  -- the objects of a heap of the trace, and of one that isn't, which has none
  objects_at : (h : Heap) → IsHeap trace h → objects_of (owner_of trace st) h st.objects ≡ objects_of (owner_of trace st) h su.objects
  unfolding part
  objects_at h known =
      ap (λ (q : CellPart). q.objects) (same.cells h known) ∙ ap (λ own. objects_of own h su.objects) (sym (fun_ext (owner_same trace st su same.book)))

  is_known : (xs : List Object) (h : Heap) (x : Object) (rest : List Object) → ((n : Name) → IsTrue (has xs n) → n.seg.0 < segment_count trace) → objects_of (owner_of trace st) h xs ≡ x ∷ rest → IsHeap trace h
  is_known [] h x rest low e = absurd (cc e)
  is_known (y ∷ xs) h x rest low e =
      go (λ e. is_known xs h x rest (λ n there. low n (or_right _ _ there)) e) (heap_eq (owner_of trace st y.name.seg.0) h) refl e
    where
      go : (objects_of (owner_of trace st) h xs ≡ x ∷ rest → IsHeap trace h) → (b : Bool) → heap_eq (owner_of trace st y.name.seg.0) h ≡ b → cond b (y ∷ objects_of (owner_of trace st) h xs) (objects_of (owner_of trace st) h xs) ≡ x ∷ rest → IsHeap trace h
      go before true t e = subst (IsHeap trace) (heap_eq-true (owner_of trace st y.name.seg.0) h t) (owner_known trace st y.name.seg.0 (low y.name (or_left _ _ (name_eq_refl y.name))))
      go before false t e = before e

  low : (n : Name) → IsTrue (has st.objects n) → n.seg.0 < segment_count trace
  low n there =
      (sound.shape.placed n there).1

  low' : (n : Name) → IsTrue (has su.objects n) → n.seg.0 < segment_count trace
  low' n there =
      (sound'.shape.placed n there).1

  each_same : (h : Heap) → objects_of (owner_of trace st) h st.objects ≡ objects_of (owner_of trace st) h su.objects
  each_same h = go (objects_of (owner_of trace st) h st.objects) (objects_of (owner_of trace st) h su.objects) refl refl
    where
      go : (a b : List Object) → objects_of (owner_of trace st) h st.objects ≡ a → objects_of (owner_of trace st) h su.objects ≡ b → objects_of (owner_of trace st) h st.objects ≡ objects_of (owner_of trace st) h su.objects
      go (x ∷ xs) b e f = objects_at h (is_known st.objects h x xs low e)
      go [] (x ∷ xs) e f = objects_at h (is_known su.objects h x xs low' f)
      go [] [] e f = e ∙ sym f

  pub parts_tell : SameState st su
  unfolding book_part of
  parts_tell = record {
    objects = objects_same (owner_of trace st) st.objects su.objects sound.names.ordered sound'.names.ordered each_same;
    made = made_same;
    registers = registers_same;
    done = done_same;
    exits = exits_same;
    shares = λ p s. ap (λ (b : BookPart). b.shares p s) same.book;
    phases = phases_same trace st su same.book;
    ended = ended_same trace st su same.book;
    scans = scans_same;
    closed = ap (λ (b : BookPart). b.closed) same.book;
    maxima = ap (λ (b : BookPart). b.maxima) same.book;
  }
