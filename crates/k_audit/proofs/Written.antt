-- The lines that are written of a state are those of the snapshot that says it.
use Rattle.std.proofs.Common.{◌≡◌, ◌∙◌, ℕ, zero, suc, ◌+◌, ◌<◌, Bool, true, false, not, cond, List, [], ◌∷◌, ◌++◌, map, filter, length, get_or, refl, sym, ap, ap₂, arith, codes, append_assoc, append-nil}
use Rattle.std.specs.List.{flat_map}
use Rattle.std.proofs.lemmas.List.{map-append}
use Rattle.k_types.specs.declared.setup.LimitRow.{LimitRow}
use Rattle.k_types.specs.declared.names.Heap.{Heap}
use Rattle.k_types.specs.declared.names.Heap.TheVariants.{Kernel}
use Rattle.k_types.specs.declared.names.Name.{Name}
use Rattle.k_types.specs.declared.names.Phase.{Phase}
use Rattle.k_types.specs.declared.names.Phase.TheVariants.{Unmade}
use Rattle.k_types.specs.Limits.{limits_in, max_of, use_of, with_maxima}
use Rattle.k_types.specs.Names.{among}
use Rattle.k_types.specs.Numbers.{numbers_below, numbers_from}
use Rattle.k_types.specs.Owners.{bytes_of, charge_of, owner_of, phase_of, shared, user}
use Rattle.k_types.specs.Sound.{IsSized}
use Rattle.k_types.specs.State.{Object, State, has_share}
use Rattle.k_types.specs.Trace.{Trace, process_count, segment_count}
use Rattle.k_words.specs.Words.{Text, text_of, word_at}
use Rattle.k_trace.specs.Named.{DeclaredNames}
use Rattle.k_text.specs.Report.{charges_lines, exit_words, exits_lines, exits_of_heap, graph_lines, kernel_charge_line, limit_charge_line, limit_charge_words, object_line, process_charge_line, process_charge_words, roots_lines, roots_of_process, share_lines, shared_charge_line, shared_charge_words, shares_lines, shares_of_process}
use Rattle.k_text.specs.Shown.{exits_of}
use Rattle.k_audit.specs.Claims.{exits_in_order, items_of, share_of, shares_in_order, snap_of, still}
use Rattle.k_audit.specs.Lines.{charge_lines, exit_line, gone_words, heap_lines, limit_lines, made_lines as made_numbers, made_words, object_lines, process_lines, root_lines, share_words, snap_lines, snap_text}
use Rattle.k_audit.specs.Snapshots.{gone_line, gone_lines, made_line, made_lines, snapshot_lines, snapshot_text}

-- ---- lists

map_flat : {A B C : Type 0} (f : B → C) (g : A → List B) (h : A → List C) → ((x : A) → map f (g x) ≡ h x) → (xs : List A) → map f (flat_map g xs) ≡ flat_map h xs
map_flat f g h each [] = refl
map_flat f g h each (x ∷ xs) = map-append f (g x) (flat_map g xs) ∙ ap₂ (λ ys zs. ys ++ zs) (each x) (map_flat f g h each xs)

flat_same : {A B : Type 0} (f g : A → List B) → ((x : A) → f x ≡ g x) → (xs : List A) → flat_map f xs ≡ flat_map g xs
flat_same f g each [] = refl
flat_same f g each (x ∷ xs) = ap₂ (λ ys zs. ys ++ zs) (each x) (flat_same f g each xs)

-- ---- the processes that have ended, and the serials that were given

module _ (names : DeclaredNames) (trace : Trace) (st : State) where
  gone_where : (p : ℕ) (t : Bool) (ps : List ℕ) → map (gone_words names) (cond t (p ∷ ps) ps) ≡ gone_line names p (not t) ++ map (gone_words names) ps
  unfolding gone_line
  gone_where p true ps = refl
  gone_where p false ps = refl

  gone_are : (ps : List ℕ) → map (gone_words names) (filter (λ p. among p st.ended) ps) ≡ flat_map (λ p. gone_line names p (not (among p st.ended))) ps
  gone_are [] = refl
  gone_are (p ∷ ps) =
      gone_where p (among p st.ended) (filter (λ q. among q st.ended) ps)
      ∙ ap (λ (ls : List (List Text)). gone_line names p (not (among p st.ended)) ++ ls) (gone_are ps)

  made_from : (seg : ℕ) (made : List ℕ) → ((i : ℕ) → i < length made → get_or made i 0 ≡ get_or st.made (seg + i) 0) → made_numbers names seg made ≡ map (made_line names st) (numbers_from seg (length made))
  unfolding made_line
  made_from seg [] each = refl
  made_from seg (n ∷ made) each =
      ap₂ (λ (k : ℕ) (ls : List (List Text)). made_words names seg k ∷ ls)
      (each zero (omega arith) ∙ ap (λ k. get_or st.made k 0) (let e : seg + 0 ≡ seg = omega arith in e))
      (ap (λ k. made_numbers names k made) (let e : 1 + seg ≡ suc seg = omega arith in e) ∙ made_from (suc seg) made (λ i inside. each (suc i) (omega (arith, inside)) ∙ ap (λ k. get_or st.made k 0) (let e : seg + suc i ≡ suc seg + i = omega arith in e)))

  made_are : length st.made ≡ segment_count trace → made_numbers names 0 st.made ≡ map (made_line names st) (numbers_below (segment_count trace))
  made_are long = made_from 0 st.made (λ i inside. ap (λ k. get_or st.made k 0) (let e : i ≡ 0 + i = omega arith in e)) ∙ ap (λ n. map (made_line names st) (numbers_below n)) long

  -- ---- objects, registers, exit items and shares

  objects_are : (objects : List Object) → object_lines names (map (λ o. owner_of trace st o.name.seg.0) objects) objects ≡ map (object_line names (owner_of trace st)) objects
  unfolding object_line
  objects_are [] = refl
  objects_are (o ∷ objects) = ap (λ (ls : List (List Text)). object_line names (owner_of trace st) o ∷ ls) (objects_are objects)

  roots_are : root_lines names trace (still trace st) ≡ flat_map (roots_of_process names st) (numbers_below (process_count trace))
  unfolding roots_of_process
  roots_are = flat_same (roots_of_process names (still trace st)) (roots_of_process names st) (λ p. refl) (numbers_below (process_count trace))

  items_from : (h : Heap) (ns : List Name) → map (exit_line names) (map (λ n. record { heap = h; target = n }) ns) ≡ map (exit_words names h) ns
  items_from h [] = refl
  items_from h (n ∷ ns) = ap (λ (ls : List (List Text)). exit_words names h n ∷ ls) (items_from h ns)

  items_are : (h : Heap) → map (exit_line names) (items_of st h) ≡ exits_of_heap names st h
  unfolding exits_of_heap
  items_are h = items_from h (exits_of st.exits h)

  exits_are : map (exit_line names) (exits_in_order trace st) ≡ exits_of_heap names st Kernel ++ flat_map (λ p. exits_of_heap names st (user p)) (numbers_below (process_count trace)) ++ flat_map (λ s. exits_of_heap names st (shared s)) (numbers_below trace.shared_heaps)
  exits_are =
      let ks = items_of st Kernel in
      let ps = flat_map (λ p. items_of st (user p)) (numbers_below (process_count trace)) in
      let ss = flat_map (λ s. items_of st (shared s)) (numbers_below trace.shared_heaps) in
      map-append (exit_line names) (ks ++ ps) ss
      ∙ ap₂ (λ (xs ys : List (List Text)). xs ++ ys)
      (map-append (exit_line names) ks ps ∙ ap₂ (λ (xs ys : List (List Text)). xs ++ ys) (items_are Kernel) (map_flat (exit_line names) (λ p. items_of st (user p)) (λ p. exits_of_heap names st (user p)) (λ p. items_are (user p)) (numbers_below (process_count trace))))
      (map_flat (exit_line names) (λ s. items_of st (shared s)) (λ s. exits_of_heap names st (shared s)) (λ s. items_are (shared s)) (numbers_below trace.shared_heaps))

  share_where : (p s : ℕ) (t : Bool) → map (share_words names) (cond t (record { process = p; heap = s } ∷ []) []) ≡ share_lines names p s t
  unfolding share_lines
  share_where p s true = refl
  share_where p s false = refl

  shares_where : (p : ℕ) → map (share_words names) (flat_map (share_of st p) (numbers_below trace.shared_heaps)) ≡ shares_of_process names trace st p
  unfolding shares_of_process
  shares_where p = map_flat (share_words names) (share_of st p) (λ s. share_lines names p s (has_share st.shares p s)) (λ s. share_where p s (has_share st.shares p s)) (numbers_below trace.shared_heaps)

  shares_are : map (share_words names) (shares_in_order trace st) ≡ flat_map (shares_of_process names trace st) (numbers_below (process_count trace))
  shares_are = map_flat (share_words names) (λ p. flat_map (share_of st p) (numbers_below trace.shared_heaps)) (shares_of_process names trace st) shares_where (numbers_below (process_count trace))

  -- ---- charges

  limits_from : (m : ℕ) (maxima : List ℕ) → ((i : ℕ) → i < length maxima → get_or maxima i 0 ≡ max_of (limits_in trace st) (m + i)) →
      limit_lines names m (map (use_of trace st) (numbers_from m (length maxima))) maxima ≡ map (limit_charge_line names trace st) (numbers_from m (length maxima))
  unfolding limit_charge_line
  limits_from m [] each = refl
  limits_from m (x ∷ maxima) each =
      ap₂ (λ (max : ℕ) (ls : List (List Text)). limit_charge_words (word_at names.limits m) (use_of trace st m) max ∷ ls)
      (each zero (omega arith) ∙ ap (λ k. max_of (limits_in trace st) k) (let e : m + 0 ≡ m = omega arith in e))
      (ap (λ k. limit_lines names k (map (use_of trace st) (numbers_from (suc m) (length maxima))) maxima) (let e : 1 + m ≡ suc m = omega arith in e) ∙ limits_from (suc m) maxima (λ i inside. each (suc i) (omega (arith, inside)) ∙ ap (λ k. max_of (limits_in trace st) k) (let e : m + suc i ≡ suc m + i = omega arith in e)))

  processes_from : (p n : ℕ) → process_lines names p (map (charge_of trace st) (numbers_from p n)) ≡ map (process_charge_line names trace st) (numbers_from p n)
  unfolding process_charge_line
  processes_from p zero = refl
  processes_from p (suc n) = ap (λ (ls : List (List Text)). process_charge_words (word_at names.procs p) (charge_of trace st p) ∷ ls) (ap (λ k. process_lines names k (map (charge_of trace st) (numbers_from (suc p) n))) (let e : 1 + p ≡ suc p = omega arith in e) ∙ processes_from (suc p) n)

  heaps_from : (s : ℕ) (phases : List Phase) → ((i : ℕ) → i < length phases → get_or phases i Unmade ≡ phase_of st.phases (s + i)) →
      heap_lines names s (map (λ k. bytes_of trace st (shared k)) (numbers_from s (length phases))) phases ≡ map (shared_charge_line names trace st) (numbers_from s (length phases))
  unfolding shared_charge_line
  heaps_from s [] each = refl
  heaps_from s (x ∷ phases) each =
      ap₂ (λ (phase : Phase) (ls : List (List Text)). shared_charge_words names (word_at names.shared s) (bytes_of trace st (shared s)) phase ∷ ls)
      (each zero (omega arith) ∙ ap (λ k. phase_of st.phases k) (let e : s + 0 ≡ s = omega arith in e))
      (ap (λ k. heap_lines names k (map (λ j. bytes_of trace st (shared j)) (numbers_from (suc s) (length phases))) phases) (let e : 1 + s ≡ suc s = omega arith in e) ∙ heaps_from (suc s) phases (λ i inside. each (suc i) (omega (arith, inside)) ∙ ap (λ k. phase_of st.phases k) (let e : s + suc i ≡ suc s + i = omega arith in e)))

pub max_at : (rows : List LimitRow) (maxima : List ℕ) (m : ℕ) → length maxima ≡ length rows → m < length maxima → get_or maxima m 0 ≡ max_of (with_maxima rows maxima) m
max_at rows [] m same inside = absurd (omega (arith, inside))
max_at [] (x ∷ maxima) m same inside = absurd (omega (arith, same))
max_at (row ∷ rows) (x ∷ maxima) zero same inside = refl
max_at (row ∷ rows) (x ∷ maxima) (suc m) same inside = max_at rows maxima m (omega (arith, same)) (omega (arith, inside))

flatten : (a b c d e f g h : List (List Text)) → a ++ (b ++ (c ++ (d ++ (e ++ (f ++ (g ++ h)))))) ≡ ((((((a ++ b) ++ c) ++ d) ++ e) ++ f) ++ g) ++ h
flatten a b c d e f g h =
    sym (append_assoc (((((a ++ b) ++ c) ++ d) ++ e) ++ f) g h
    ∙ append_assoc ((((a ++ b) ++ c) ++ d) ++ e) f (g ++ h)
    ∙ append_assoc (((a ++ b) ++ c) ++ d) e (f ++ (g ++ h))
    ∙ append_assoc ((a ++ b) ++ c) d (e ++ (f ++ (g ++ h)))
    ∙ append_assoc (a ++ b) c (d ++ (e ++ (f ++ (g ++ h))))
    ∙ append_assoc a b (c ++ (d ++ (e ++ (f ++ (g ++ h))))))

module _ (names : DeclaredNames) (trace : Trace) (st : State) (sized : IsSized trace st) where
  limits_are : limit_lines names 0 (map (use_of trace st) (numbers_below (length trace.limits))) st.maxima ≡ map (limit_charge_line names trace st) (numbers_below (length trace.limits))
  limits_are =
      ap (λ n. limit_lines names 0 (map (use_of trace st) (numbers_below n)) st.maxima) (sym sized.maxima)
      ∙ limits_from names trace st 0 st.maxima (λ i inside. max_at trace.limits st.maxima i sized.maxima inside ∙ ap (λ k. max_of (limits_in trace st) k) (let e : i ≡ 0 + i = omega arith in e))
      ∙ ap (λ n. map (limit_charge_line names trace st) (numbers_below n)) sized.maxima

  heaps_are : heap_lines names 0 (map (λ k. bytes_of trace st (shared k)) (numbers_below trace.shared_heaps)) st.phases ≡ map (shared_charge_line names trace st) (numbers_below trace.shared_heaps)
  heaps_are =
      ap (λ n. heap_lines names 0 (map (λ k. bytes_of trace st (shared k)) (numbers_below n)) st.phases) (sym sized.phases)
      ∙ heaps_from names trace st 0 st.phases (λ i inside. ap (λ k. phase_of st.phases k) (let e : i ≡ 0 + i = omega arith in e))
      ∙ ap (λ n. map (shared_charge_line names trace st) (numbers_below n)) sized.phases

  charges_are : charge_lines names (snap_of trace st) ≡ kernel_charge_line trace st ∷ map (limit_charge_line names trace st) (numbers_below (length trace.limits)) ++ map (process_charge_line names trace st) (numbers_below (process_count trace)) ++ map (shared_charge_line names trace st) (numbers_below trace.shared_heaps)
  unfolding kernel_charge_line
  charges_are =
      let k = kernel_charge_line trace st in
      let ms = map (limit_charge_line names trace st) (numbers_below (length trace.limits)) in
      let ps = map (process_charge_line names trace st) (numbers_below (process_count trace)) in
      let ss = map (shared_charge_line names trace st) (numbers_below trace.shared_heaps) in
      rw (limits_are, processes_from names trace st 0 (process_count trace), heaps_are) (sym (append_assoc (k ∷ ms) ps (ss ++ [])) ∙ ap (λ (ls : List (List Text)). ((k ∷ ms) ++ ps) ++ ls) (append-nil ss))

  -- a section whose heading is that, and what stands behind it
  section : (h : List Text) (xs ys rest more : List (List Text)) → xs ≡ ys → rest ≡ more → (h ∷ xs) ++ rest ≡ (h ∷ ys) ++ more
  section h xs ys rest more same behind = ap₂ (λ (ls ms : List (List Text)). (h ∷ ls) ++ ms) same behind

  pub lines_are : snap_lines names trace (snap_of trace st) ≡ snapshot_lines names trace st
  unfolding snapshot_lines gone_lines made_lines graph_lines roots_lines exits_lines shares_lines charges_lines
  lines_are =
      section (codes "snapshot" ∷ codes "1" ∷ []) _ _ _ _ (gone_are names trace st (numbers_below (process_count trace)))
      (section (codes "made" ∷ []) _ _ _ _ (made_are names trace st sized.made)
      (section (codes "graph" ∷ []) _ _ _ _ (objects_are names trace st st.objects)
      (section (codes "roots" ∷ []) _ _ _ _ (roots_are names trace st)
      (section (codes "exits" ∷ []) _ _ _ _ (exits_are names trace st)
      (section (codes "shares" ∷ []) _ _ _ _ (shares_are names trace st)
      (section (codes "charges" ∷ []) _ _ _ _ charges_are refl))))))
      ∙ flatten ((codes "snapshot" ∷ codes "1" ∷ []) ∷ gone_lines names trace st) (made_lines names trace st) (graph_lines names trace st) (roots_lines names trace st) (exits_lines names trace st) (shares_lines names trace st) (charges_lines names trace st) ((codes "end" ∷ []) ∷ [])

  pub text_is : snap_text names trace (snap_of trace st) ≡ snapshot_text names trace st
  text_is = ap text_of lines_are
