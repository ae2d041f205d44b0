-- What an object that is made changes in the book's part.
use Rattle.std.proofs.Common.{◌≡◌, ℕ, ◌+◌, ◌*◌, ◌<◌, Bool, false, refl, ap, ap₂, ◌∙◌, map, length, arith, IsFalse}
use Rattle.std.proofs.Math.Path.{fun_ext}
use Rattle.k_types.specs.declared.names.Pid.{Pid}
use Rattle.k_types.specs.declared.names.TypeId.{TypeId}
use Rattle.k_types.specs.declared.names.Heap.{Heap}
use Rattle.k_types.specs.declared.names.Heap.TheVariants.{Kernel}
use Rattle.k_types.specs.declared.names.Phase.TheVariants.{Populating}
use Rattle.k_types.specs.Names.{heap_eq, among}
use Rattle.k_types.specs.Numbers.{numbers_below}
use Rattle.k_types.specs.TraceRules.{AreLimits}
use Rattle.k_types.specs.Trace.{Trace, process_count, limit_of, kinds_of, size_of_type}
use Rattle.k_types.specs.State.{State}
use Rattle.k_types.specs.Owners.{owner_of, user, shared, bytes_of, charge_of, phase_of, is_absorbed}
use Rattle.k_types.specs.Limits.{direct_by}
use Rattle.k_types.specs.Updates.{create}
use Rattle.k_types.specs.Cells.{book_part}
use Rattle.k_types.specs.Sound.{IsSound}
use Rattle.k_laws.specs.BookChanges.{with_charge, with_shared_bytes}
use Rattle.k_laws.proofs.OnBook.{map_raised, direct_raised}
use Rattle.k_types.proofs.Charges.{bit_turned}
use Rattle.k_types.proofs.Sums.{bit}
use Rattle.k_laws.proofs.OwnerOf.{owner_user, owner_kernel, owner_shared}
use Rattle.k_laws.proofs.SoundNew.{bytes_after}
use Rattle.k_laws.proofs.Charged.{new_charge, charge_of_kernel_new, snew_charge}

module _ (trace : Trace) (st : State) where
  -- the bytes of the shared heaps, where the segment's owner is that heap
  shared_after : (seg : ℕ) (ty : TypeId) (h : Heap) → owner_of trace st seg ≡ h → (s : ℕ) →
      bytes_of trace (create seg ty (kinds_of trace ty) st) (shared s) ≡ bytes_of trace st (shared s) + size_of_type trace ty * bit (heap_eq h (shared s))
  shared_after seg ty h own s = bytes_after trace st seg ty (shared s) ∙ ap (λ g. bytes_of trace st (shared s) + size_of_type trace ty * bit (heap_eq g (shared s))) own

  nothing : (a b n : ℕ) → a ≡ b + n * bit false → a ≡ b
  nothing a b n e = omega (arith, e)

  none_more : (a b : ℕ) (t : Bool) → a ≡ b + 0 * bit t → a ≡ b
  none_more a b t e = omega (arith, e)

  pub new_on_book : AreLimits trace → IsSound trace st → (p : ℕ) (ty : TypeId) → p < process_count trace → IsFalse (among p st.ended) →
      book_part trace (create (p + 1) ty (kinds_of trace ty) st) ≡ with_charge (limit_of trace p) (size_of_type trace ty) (book_part trace st)
  unfolding book_part create
  new_on_book limits sound p ty known lives =
      ap₂ (λ bytes direct. record (book_part trace st) { shared_bytes = bytes; direct = direct })
      (ap (λ f. map f (numbers_below trace.shared_heaps)) (fun_ext (λ s. nothing _ _ (size_of_type trace ty) (shared_after (p + 1) ty (user p) (owner_user trace st p known lives) s))))
      (direct_raised trace st limits p (size_of_type trace ty) (charge_of trace st) (charge_of trace (create (p + 1) ty (kinds_of trace ty) st)) known (new_charge trace st p sound known lives ty))

  pub new_in_kernel_on_book : (ty : TypeId) → book_part trace (create 0 ty (kinds_of trace ty) st) ≡ book_part trace st
  unfolding book_part create
  new_in_kernel_on_book ty =
      ap₂ (λ bytes direct. record (book_part trace st) { shared_bytes = bytes; direct = direct })
      (ap (λ f. map f (numbers_below trace.shared_heaps)) (fun_ext (λ s. nothing _ _ (size_of_type trace ty) (shared_after 0 ty Kernel (owner_kernel trace st) s))))
      (ap (λ c. map (direct_by trace c) (numbers_below (length trace.limits))) (fun_ext (λ q. charge_of_kernel_new trace st ty q)))

  pub new_in_shared_on_book : AreLimits trace → IsSound trace st → (pid : Pid) (s : ℕ) (ty : TypeId) → pid.0 < process_count trace → IsFalse (among pid.0 st.ended) → s < trace.shared_heaps → phase_of st.phases s ≡ Populating pid →
      book_part trace (create (1 + process_count trace + s) ty (kinds_of trace ty) st) ≡ with_shared_bytes s (size_of_type trace ty) (with_charge (limit_of trace pid.0) (size_of_type trace ty) (book_part trace st))
  unfolding book_part create
  new_in_shared_on_book limits sound pid s ty known lives inside phase =
      let own : owner_of trace st (1 + process_count trace + s) ≡ shared s = owner_shared trace st s (ap is_absorbed phase) in
      ap₂ (λ bytes direct. record (book_part trace st) { shared_bytes = bytes; direct = direct })
      (map_raised (λ t. bytes_of trace st (shared t)) (λ t. bytes_of trace (create (1 + process_count trace + s) ty (kinds_of trace ty) st) (shared t)) trace.shared_heaps s (size_of_type trace ty) inside
      (λ t. shared_after (1 + process_count trace + s) ty (shared s) own t ∙ ap (λ n. bytes_of trace st (shared t) + size_of_type trace ty * n) (bit_turned s t)))
      (direct_raised trace st limits pid.0 (size_of_type trace ty) (charge_of trace st) (charge_of trace (create (1 + process_count trace + s) ty (kinds_of trace ty) st)) known (snew_charge trace st pid.0 sound known lives s pid ty phase refl))
