-- What the changes leave of the cells that they don't name.
use Rattle.std.proofs.Common.{◌≡◌, ℕ, ◌&&◌, ◌||◌, cond, Bool, true, false, refl, sym, ap, ap₂, ◌∙◌, List, [], ◌∷◌, ◌++◌, filter, Option, Some, None, get_or, set, get_or-set_other, slice_index_or, eq-eqb, append-nil, inl, inr}
use Rattle.std.specs.List.{list_any}
use Rattle.std.proofs.Math.Path.{fun_ext}
use Rattle.std.proofs.lemmas.Bool.{false≢true, cases_eq}
use Rattle.std.proofs.lemmas.List.Elements.{filter-append}
use Rattle.k_types.specs.declared.names.Name.{Name}
use Rattle.k_types.specs.declared.names.Heap.{Heap}
use Rattle.k_types.specs.declared.names.Heap.TheVariants.{Kernel, User, Shared}
use Rattle.k_types.specs.declared.names.TypeId.{TypeId}
use Rattle.k_types.specs.declared.names.Field.{Field}
use Rattle.k_types.specs.Names.{name_eq, heap_eq, among}
use Rattle.k_types.specs.Trace.{Trace}
use Rattle.k_types.specs.State.{State, Content, ExitItem, has_exit}
use Rattle.k_types.specs.Owners.{owner_of, user}
use Rattle.k_types.specs.Updates.{count_done, set_register, create, write, add_exit, with_exit, open_scan, add_share, close, set_max}
use Rattle.k_types.specs.Cells.{part, process_of, Cell}
use Rattle.k_types.proofs.Objects.{kept-placed_other, kept-written_other}

-- the exit items of a heap, in their order, tell which it has
abbrev pub exits_of : List ExitItem → Heap → List ExitItem
exits_of exits h = filter (λ e. heap_eq e.heap h) exits

any-both_step : {A : Type 0} (p q : A → Bool) (x : A) (xs : List A) → list_any (λ x. p x && q x) xs ≡ list_any q (filter p xs) → list_any (λ x. p x && q x) (x ∷ xs) ≡ list_any q (filter p (x ∷ xs))
any-both_step p q x xs ih = elim (p x) as (λ b. ((b && q x) || list_any (λ x. p x && q x) xs) ≡ list_any q (cond b (x ∷ filter p xs) (filter p xs))) [ true ↦ ap (λ b. q x || b) ih | false ↦ ih ]

any-both : {A : Type 0} (p q : A → Bool) (xs : List A) → list_any (λ x. p x && q x) xs ≡ list_any q (filter p xs)
any-both p q [] = refl
any-both p q (x ∷ xs) = any-both_step p q x xs (any-both p q xs)

pub exits_told : (c : Heap) (xs ys : List ExitItem) → exits_of xs c ≡ exits_of ys c → has_exit xs c ≡ has_exit ys c
exits_told c xs ys same =
    fun_ext (λ n. any-both (λ e. heap_eq e.heap c) (λ e. name_eq e.target n) xs ∙ ap (list_any (λ e. name_eq e.target n)) same ∙ sym (any-both (λ e. heap_eq e.heap c) (λ e. name_eq e.target n) ys))

made_elsewhere : (own : ℕ → Heap) (c : Heap) (made : List ℕ) (seg v at : ℕ) → heap_eq (own seg) c ≡ false →
    cond (heap_eq (own at) c) (Some (get_or (set made seg v) at 0)) None ≡ cond (heap_eq (own at) c) (Some (get_or made at 0)) None
made_elsewhere own c made seg v at e =
    elim (cases_eq at seg) [
      | inl same ↦ rw (ap (λ s. heap_eq (own s) c) same ∙ e) refl
      | inr ne ↦ ap (λ v. cond (heap_eq (own at) c) (Some v) None) (get_or-set_other made seg at v 0 ne)
    ]

module _ (trace : Trace) (st : State) (c : Cell) where
  pub create_elsewhere : (seg : ℕ) (ty : TypeId) (kinds : List Field) → heap_eq (owner_of trace st seg) c ≡ false → part trace (create seg ty kinds st) c ≡ part trace st c
  unfolding part create
  create_elsewhere seg ty kinds e =
      ap₂ (λ objects made. record (part trace st c) { objects = objects; made = made })
      (kept-placed_other (λ n. heap_eq (owner_of trace st n.seg.0) c) _ st.objects e)
      (fun_ext (λ at. made_elsewhere (owner_of trace st) c st.made seg _ at e))

  pub write_elsewhere : (x : Name) (i : ℕ) (content : Content) → heap_eq (owner_of trace st x.seg.0) c ≡ false → part trace (write x i content st) c ≡ part trace st c
  unfolding part write
  write_elsewhere x i content e =
      ap (λ objects. record (part trace st c) { objects = objects }) (kept-written_other (λ n. heap_eq (owner_of trace st n.seg.0) c) x i content st.objects e)

  exits_elsewhere : (g : Heap) (y : Name) → heap_eq g c ≡ false → exits_of (with_exit g y st.exits) c ≡ exits_of st.exits c
  exits_elsewhere g y e =
      elim (has_exit st.exits g y) as (λ b. exits_of (cond b st.exits (st.exits ++ record { heap = g; target = y } ∷ [])) c ≡ exits_of st.exits c) [
        | true ↦ refl
        | false ↦ rw (filter-append (λ x. heap_eq x.heap c) st.exits (record { heap = g; target = y } ∷ []), e) (append-nil _)
      ]

  pub add_exit_elsewhere : (g : Heap) (y : Name) → heap_eq g c ≡ false → part trace (add_exit g y st) c ≡ part trace st c
  unfolding part add_exit
  add_exit_elsewhere g y e = ap (λ exits. record (part trace st c) { exits = exits }) (exits_told c (with_exit g y st.exits) st.exits (exits_elsewhere g y e))

  process_elsewhere : (k : Cell) (p r : ℕ) (v : Option Name) → heap_eq (user p) k ≡ false → process_of (set_register p r v st) k ≡ process_of st k
  unfolding set_register
  process_elsewhere Kernel p r v e = refl
  process_elsewhere (Shared s) p r v e = refl
  process_elsewhere (User q) p r v e =
      ap (λ registers. Some (record { registers = registers; done = slice_index_or st.done q.0 0; has_ended = among q.0 st.ended }))
      (get_or-set_other st.registers p q.0 _ [] (λ t. false≢true (sym e ∙ eq-eqb p q.0 (sym t))))

  pub set_register_elsewhere : (p r : ℕ) (v : Option Name) → heap_eq (user p) c ≡ false → part trace (set_register p r v st) c ≡ part trace st c
  unfolding part set_register
  set_register_elsewhere p r v e = ap (λ process. record (part trace st c) { process = process }) (process_elsewhere c p r v e)

  done_elsewhere : (k : Cell) (p : ℕ) → heap_eq (user p) k ≡ false → process_of (count_done p st) k ≡ process_of st k
  unfolding count_done
  done_elsewhere Kernel p e = refl
  done_elsewhere (Shared s) p e = refl
  done_elsewhere (User q) p e =
      ap (λ done. Some (record { registers = slice_index_or st.registers q.0 []; done = done; has_ended = among q.0 st.ended }))
      (get_or-set_other st.done p q.0 _ 0 (λ t. false≢true (sym e ∙ eq-eqb p q.0 (sym t))))

  pub count_done_elsewhere : (p : ℕ) → heap_eq (user p) c ≡ false → part trace (count_done p st) c ≡ part trace st c
  unfolding part count_done
  count_done_elsewhere p e = ap (λ process. record (part trace st c) { process = process }) (done_elsewhere c p e)

  pub open_scan_elsewhere : (h : Heap) (roots : List Name) → heap_eq h c ≡ false → part trace (open_scan h roots st) c ≡ part trace st c
  unfolding part open_scan
  open_scan_elsewhere h roots e = rw e refl

  pub add_share_elsewhere : (p s : ℕ) → part trace (add_share p s st) c ≡ part trace st c
  unfolding part add_share
  add_share_elsewhere p s = refl

  pub set_max_elsewhere : (m max : ℕ) → part trace (set_max m max st) c ≡ part trace st c
  unfolding part set_max
  set_max_elsewhere m max = refl

  pub close_elsewhere : part trace (close st) c ≡ part trace st c
  unfolding part close
  close_elsewhere = refl
