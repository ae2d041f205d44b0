-- Processes publish what they did inside their heaps, one after the other.
use Rattle.std.proofs.Common.{◌≡◌, ℕ, zero, suc, ◌+◌, ◌<◌, refl, sym, ap, ◌∙◌, subst, List, [], ◌∷◌, ◌++◌, append-nil, append_assoc, length, length-set, take, Some, slice_get, slice_set, inl, inr, arith, Result, Ok, Err, IfErr, OnOk}
use Rattle.std.specs.List.{flat_map}
use Rattle.std.specs.Prelude.{MatchOption}
use Rattle.std.proofs.lemmas.Bool.{cases_eq}
use Rattle.std.proofs.lemmas.Grind.{flat_map-append}
use Rattle.std.proofs.lemmas.List.{take_more}
use Rattle.std.proofs.lemmas.List.Concat.{flat_map-cons}
use Rattle.std.proofs.lemmas.Option.{get_or_from_slice_get, slice_get_within}
use Rattle.k_types.specs.declared.event.Event.{Event}
use Rattle.k_types.specs.declared.names.Pid.{Pid}
use Rattle.k_types.proofs.Lists.{get_there, slice_get-set_other, some_one}
use Rattle.k_book.specs.Books.{BookRecord}
use Rattle.k_host.specs.HostError.{HostError}
use Rattle.k_host.specs.HostError.TheVariants.{Unknown}
use Rattle.k_host.specs.CallsRefusals.{CanNotPublish}
use Rattle.k_host.specs.Calls.{HasPublishedIn}
use Rattle.k_host.specs.Hosts.{HostValue}
use Rattle.k_host.specs.Refusals.{MayRefuse}
use Rattle.k_host.specs.k_guests.declared.guest.Guest.{Guest}
use Rattle.k_keeper.specs.Keeping.{IsKept}
use Rattle.k_keeper.specs.Publishing.{HavePublished, IsPublished, IsPublishedAt, tail_of}
use Rattle.k_keeper.proofs.Kept.{publishing_room}

module _ (h : HostValue) (kept : IsKept h 0) (pid : Pid) (inside : pid.0 < length h.guests) where
  guest : (g : Guest) × (slice_get h.guests pid.0 ≡ Some g)
  guest = get_there h.guests pid.0 inside

  publish_never : (why : HostError) → MayRefuse h pid (CanNotPublish h.basis h.book) why → ⊥
  publish_never why refused =
      let full = subst (λ o. MatchOption o (why ≡ Unknown) (λ g. CanNotPublish h.basis h.book g why)) guest.1 refused in
      full.fails (publishing_room h 0 kept pid.0 guest.0 guest.1)

  pub publish_done : (n : HostValue) (r : Result (Unit {0}) HostError) → OnOk r (HasPublishedIn h n pid) → IfErr r (λ why. MayRefuse h pid (CanNotPublish h.basis h.book) why) → HasPublishedIn h n pid
  publish_done n (Ok u) done why = done
  publish_done n (Err error) done why = absurd (publish_never error why)

-- nothing is published yet
pub published_none : (h : HostValue) → HavePublished h h 0
published_none h = record { journal = sym (append-nil h.book.journal.list); published = λ k g low. absurd (omega (arith, low)); left = λ k low. refl; count = refl; book_is = refl; host_is = refl }

set_cases : {A : Type 0} (xs : List A) (k : ℕ) (x y : A) → k < length xs → slice_get (slice_set xs k x) k ≡ Some y → y ≡ x
set_cases [] k x y inside at = absurd (omega (arith, inside))
set_cases (z ∷ xs) zero x y inside at = sym (some_one at)
set_cases (z ∷ xs) (suc k) x y inside at = set_cases xs k x y (omega (arith, inside)) at

module _ (old now next : HostValue) (p : ℕ) (so_far : HavePublished old now p) (c : HasPublishedIn now next (record { 0 = p })) where
  there : slice_get old.guests p ≡ Some c.before
  there = sym (so_far.left p (omega arith)) ∙ c.there

  guests : next.guests ≡ slice_set now.guests p c.after
  guests = ap (λ (x : HostValue). x.guests) c.host_is

  tails : flat_map tail_of (take (p + 1) old.guests) ≡ flat_map tail_of (take p old.guests) ++ c.before.cell.value.tail
  tails =
      ap (flat_map tail_of) (take_more old.guests p c.before (slice_get_within old.guests p c.before there) ∙ ap (λ g. take p old.guests ++ g ∷ []) (get_or_from_slice_get old.guests p c.before c.before there))
      ∙ flat_map-append tail_of (take p old.guests) (c.before ∷ [])
      ∙ ap (λ es. flat_map tail_of (take p old.guests) ++ es) (flat_map-cons tail_of c.before [] ∙ append-nil c.before.cell.value.tail)

  here : (g : Guest) → slice_get next.guests p ≡ Some g → IsPublishedAt old p g
  here g at = record {
    before = c.before;
    there = there;
    published =
        subst (IsPublished c.before) (sym (set_cases now.guests p c.after g (slice_get_within now.guests p c.before c.there) (ap (λ (gs : List Guest). slice_get gs p) (sym guests) ∙ at)))
        (record { guest_is = c.way.guest_is });
  }

  other : (k : ℕ) → (k ≡ p → ⊥) → slice_get next.guests k ≡ slice_get now.guests k
  other k apart = ap (λ (gs : List Guest). slice_get gs k) guests ∙ slice_get-set_other now.guests p k c.after apart

  -- one process more
  pub published_next : HavePublished old next (p + 1)
  published_next = record {
    journal =
        c.way.journal ∙ ap (λ (es : List Event). es ++ c.before.cell.value.tail) so_far.journal
        ∙ append_assoc old.book.journal.list (flat_map tail_of (take p old.guests)) c.before.cell.value.tail
        ∙ ap (λ (es : List Event). old.book.journal.list ++ es) (sym tails);
    published = λ k g low at. elim (cases_eq k p) [
      | inl same ↦ subst (λ n. IsPublishedAt old n g) (sym same) (here g (ap (λ n. slice_get next.guests n) (sym same) ∙ at))
      | inr apart ↦ so_far.published k g (omega (arith, low, apart)) (sym (other k apart) ∙ at)
    ];
    left = λ k low. other k (λ e. omega (arith, low, e)) ∙ so_far.left k (omega (arith, low));
    count = ap length guests ∙ length-set now.guests p c.after ∙ so_far.count;
    book_is = c.way.book_is ∙ ap (λ (b : BookRecord). record b { journal = next.book.journal }) so_far.book_is;
    host_is = c.host_is ∙ ap (λ (x : HostValue). record x { guests = slice_set now.guests p c.after; book = next.book }) so_far.host_is ∙ ap (λ gs. record old { guests = gs; book = next.book }) (sym guests);
  }
