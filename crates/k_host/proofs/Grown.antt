-- A host serves with larger rooms.
use Rattle.std.proofs.Common.{◌≡◌, ℕ, refl, sym, ap, ◌∙◌, subst, List, length, map}
use Rattle.k_book.specs.Books.{BookRecord}
use Rattle.k_cell.specs.Holdings.{HoldingsValue}
use Rattle.k_shared.specs.SharedHeaps.{SharedRecord}
use Rattle.k_ends.specs.k_guests.declared.guest.Guest.{Guest}
use Rattle.k_ends.specs.k_guests.declared.rooms.Rooms.{Rooms}
use Rattle.k_ends.specs.k_guests.declared.terms.Terms.{Terms}
use Rattle.k_ends.specs.k_guests.Growing.{AreKept, AreLarger, CanGrow, HaveGrown, basis_with_rooms, book_with_rooms, guest_with_rooms, heap_with_rooms, kernel_with_rooms}
use Rattle.k_ends.specs.k_guests.Serving.{Basis, basis_of}
use Rattle.k_ends.proofs.GrownServes.{guests_serve, rest_serves, tails_fit}
use Rattle.k_host.proofs.Called.{host_of}
use Rattle.k_host.specs.Growing.{HasGrown, with_rooms}
use Rattle.k_host.specs.Hosts.{HostServes, HostValue}

module _ (terms : Terms) (rooms : Rooms) (gs : List Guest) (k : HoldingsValue) (ss : List SharedRecord) (b : BookRecord) where
  abbrev old : HostValue
  old = host_of (basis_of terms) gs k ss b

  module _ (serves : HostServes old) (larger : AreLarger (length gs) terms.rooms rooms) where
    grows : AreLarger (length terms.setup.procs.items) terms.rooms rooms
    grows = subst (λ n. AreLarger n terms.rooms rooms) serves.all.count larger

    pub can_grow_parts : CanGrow terms rooms gs k ss b
    can_grow_parts = record { larger = grows; all = serves.all; few = serves.few; rest = serves.rest }

    module _ (kept : ℕ) (hs : List Guest) (l : HoldingsValue) (ts : List SharedRecord) (c : BookRecord) (grown : HaveGrown rooms kept gs hs k l ss ts b c) where
      abbrev now : HostValue
      now = host_of (basis_with_rooms (basis_of terms) rooms kept) hs l ts c

      grown_is : now ≡ with_rooms rooms kept old
      grown_is =
          ap (λ x. host_of (basis_with_rooms (basis_of terms) rooms kept) x l ts c) grown.guests_are
          ∙ ap (λ x. host_of (basis_with_rooms (basis_of terms) rooms kept) (map (guest_with_rooms rooms) gs) x ts c) grown.kernel_is
          ∙ ap (λ x. host_of (basis_with_rooms (basis_of terms) rooms kept) (map (guest_with_rooms rooms) gs) (kernel_with_rooms rooms k) x c) grown.shared_are
          ∙ ap (λ x. host_of (basis_with_rooms (basis_of terms) rooms kept) (map (guest_with_rooms rooms) gs) (kernel_with_rooms rooms k) (map (heap_with_rooms rooms) ss) x) grown.book_is

      pub host_serves : HostServes now
      host_serves = subst HostServes (sym grown_is) (record {
        all = guests_serve (basis_of terms) rooms kept grows b.journal.table gs serves.all;
        rest = rest_serves (basis_of terms) rooms kept grows k ss b serves.rest;
        few = tails_fit (basis_of terms) rooms kept grows gs serves.few;
      })

      pub has_grown : AreKept (length b.journal.list) terms.rooms.kept rooms.kept kept → HasGrown old now rooms kept
      has_grown kept_are = record { larger = larger; host_is = grown_is; kept_are = kept_are }
