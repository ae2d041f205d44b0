-- The parts of a host that serves rest, each by itself, and are of that host.
use Rattle.std.proofs.Common.{◌≡◌, ℕ, zero, suc, refl, sym, ap, ◌∙◌, subst, List, [], ◌∷◌, ◌++◌, Option, Some, slice_get, map}
use Rattle.std.proofs.lemmas.List.{map-append}
use Rattle.atomic_table.specs.Seated.{TableId}
use Rattle.k_book.specs.Books.{BookRecord}
use Rattle.k_cell.specs.Holdings.{HoldingsValue}
use Rattle.k_ends.specs.k_guests.Serving.{Basis, KernelServes, SharedServes, basis_of}
use Rattle.k_host.specs.Hosts.{HostServes, HostValue}
use Rattle.k_parts.specs.declared.head.Head.{Head}
use Rattle.k_parts.specs.Parts.{BookPartValue, BookRests, BookServesApart, GuestServesApart, Home, IsOf, KernelPartValue, KernelRests, Rests, book_seen, guest_seen, home_at, kernel_seen, shared_seen}
use Rattle.k_parts.specs.Splitting.{GuestsRest, HeapsRest, guest_in, heap_in, home_of}

map_each : {A B : Type 0} (f h : A → B) (xs : List A) → ((k : ℕ) (x : A) → slice_get xs k ≡ Some x → f x ≡ h x) → map f xs ≡ map h xs
map_each f h [] same = refl
map_each f h (x ∷ xs) same = ap (λ y. y ∷ map f xs) (same zero x refl) ∙ ap (λ ys. h x ∷ ys) (map_each f h xs (λ k y at. same (suc k) y at))

-- one more is seen
pub seen_more : {A B : Type 0} (f : A → B) (xs : List A) (x : A) (made more : List B) (y : B) → more ≡ made ++ y ∷ [] → made ≡ map f xs → y ≡ f x → more ≡ map f (xs ++ x ∷ [])
seen_more f xs x made more y pushed so_far is = pushed ∙ ap (λ ys. ys ++ y ∷ []) so_far ∙ ap (λ z. map f xs ++ z ∷ []) is ∙ sym (map-append f xs (x ∷ []))

abbrev home_as : Basis → ℕ → TableId → Home
home_as basis number table = record { basis = basis; number = number; table = table }

abbrev kernel_in : Home → HoldingsValue → KernelPartValue
kernel_in home k = record { home = home; kernel = k }

abbrev book_in : Home → BookRecord → ℕ → BookPartValue
book_in home b most = record { home = home; book = b; freed = []; room = most; taken = 0 }

module _ (named : Option Home) (h : HostValue) (number : ℕ) (serves : HostServes h) (of_host : IsOf named (home_of h number)) (head : Head) (basis_is : basis_of head.terms ≡ h.basis) (numbered : head.number ≡ number) where
  pub the_home : (table : TableId) → table ≡ h.book.journal.table → home_at head table ≡ home_of h number
  the_home table same =
      ap (λ (b : Basis). home_as b head.number table) basis_is ∙ ap (λ (n : ℕ). home_as h.basis n table) numbered ∙ ap (λ (t : TableId). home_as h.basis number t) same

  rests_first : {A : Type 0} (Serves : Basis → TableId → A → Type 0) (table : TableId) (part : A) → table ≡ h.book.journal.table → Serves h.basis h.book.journal.table part → Rests Serves named (home_at head table) part
  rests_first Serves table part same serves = subst (λ (x : Home). Rests Serves named x part) (sym (the_home table same)) (record { serves = serves; of_host = of_host })

  pub first_guests : GuestsRest named head h.guests
  first_guests i g at =
      let served = serves.all.each i g at in
      rests_first GuestServesApart g.cell.note.table g served.table (record { serves = served; few = serves.few i g at })

  pub first_heaps : HeapsRest named head h.shared
  first_heaps i s at = let served = serves.rest.heaps.each i s at in rests_first SharedServes s.note.table s served.table served

  pub first_kernel : KernelRests named (home_at head h.kernel.note.table) h.kernel
  first_kernel = rests_first KernelServes h.kernel.note.table h.kernel serves.rest.kernel.table serves.rest.kernel

  pub first_book : BookRests named (home_at head h.book.journal.table) h.book
  first_book = rests_first BookServesApart h.book.journal.table h.book refl (record { serves = serves.rest.book; table_is = refl })

  pub guests_seen : map (guest_seen head) h.guests ≡ map (guest_in (home_of h number)) h.guests
  guests_seen = map_each (guest_seen head) (guest_in (home_of h number)) h.guests (λ i g at. ap (λ (x : Home). guest_in x g) (the_home g.cell.note.table (serves.all.each i g at).table))

  pub heaps_seen : map (shared_seen head) h.shared ≡ map (heap_in (home_of h number)) h.shared
  heaps_seen = map_each (shared_seen head) (heap_in (home_of h number)) h.shared (λ i s at. ap (λ (x : Home). heap_in x s) (the_home s.note.table (serves.rest.heaps.each i s at).table))

  pub kernel_is_seen : kernel_seen head h.kernel ≡ record { home = home_of h number; kernel = h.kernel }
  kernel_is_seen = ap (λ (x : Home). kernel_in x h.kernel) (the_home h.kernel.note.table serves.rest.kernel.table)

  pub book_is_seen : (most : ℕ) → book_seen head h.book (record { names = []; room = most }) 0 ≡ record { home = home_of h number; book = h.book; freed = []; room = most; taken = 0 }
  book_is_seen most = ap (λ (x : Home). book_in x h.book most) (the_home h.book.journal.table refl)
