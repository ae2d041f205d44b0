-- A keeper is opened over a host in which nothing has happened.
use Rattle.std.proofs.Common.{◌≡◌, ◌≤◌, ◌+◌, ◌-◌, ◌*◌, ◌^◌, ◌↔◌, ℕ, Bool, true, false, cond, nat_lt, refl, subst, sym, ap, ◌∙◌, List, length, arith, IsTrue}
use Rattle.k_types.specs.declared.names.Name.{Name}
use Rattle.k_types.specs.declared.names.TypeId.{TypeId}
use Rattle.k_words.specs.Words.{Text}
use Rattle.k_host.specs.k_guests.Serving.{Basis}
use Rattle.k_host.specs.declared.errors.OpenError.TheVariants.{Terms}
use Rattle.k_host.specs.Hosts.{HostValue, IsFresh}
use Rattle.k_host.specs.Opening.{HasRead}
use Rattle.k_host.specs.k_guests.declared.rooms.Rooms.{Rooms}
use Rattle.k_host.specs.k_guests.Enough.{lesser}
use Rattle.k_host.specs.k_guests.Objects.{objects_after}
use Rattle.k_types.specs.Trace.{process_count, segment_count}
use Rattle.k_types.specs.TraceRules.{KeepsRules}
use Rattle.k_spell.specs.Spelled.{AreSpelled}
use Rattle.k_keeper.specs.Keeping.{IsFit, IsKept, most_objects, most_with, needed_to_operate, objects_in, owed_by}
use Rattle.k_keeper.specs.Kept.{HasFewEvents, HasOpened}
use Rattle.k_keeper.proofs.Kept.{owed_settled}
use Rattle.k_keeper.proofs.Refused.{keeper_of}
use Rattle.k_keeper.proofs.Sums.{total_low}
use Rattle.std.proofs.lemmas.Bool.{iff_false}

fresh_kept : (basis : Basis) (bodies : ℕ) (h : HostValue) (left : ℕ) → IsFit h.basis → IsFresh basis bodies h → left + length h.guests ≤ basis.rooms.events → IsKept h left
fresh_kept basis bodies h left fit f enough = record {
  serves = f.serves;
  fit = fit;
  spelled = record {
    journal = subst AreSpelled (sym f.journal) refl;
    tails = λ k g at. subst AreSpelled (sym (f.guests k g at).settled) refl;
  };
  idle = λ k g at lives. (f.guests k g at).idle;
  kernel_idle = f.kernel;
  room =
      let low = total_low owed_by h.guests (λ k g at. owed_settled g (f.guests k g at).settled) in
      let none : length h.book.journal.list ≡ 0 = ap length f.journal in
      let events = ap (λ (b : Basis). b.rooms.events) f.basis_is in
      omega (arith, low, none, events, enough);
}

-- a host has a segment at least
some_room : (segments objects : ℕ) → 1 ≤ objects → 1 ≤ (segments + 1) * objects
some_room segments objects some = let spread : (segments + 1) * objects ≡ segments * objects + objects = omega arith in omega (arith, spread, some)

one_first : (a b : ℕ) → a + b + 1 ≡ 1 + a + b
one_first a b = omega arith

lesser_some : (a b : ℕ) → 1 ≤ a → 1 ≤ b → 1 ≤ lesser a b
lesser_some a b some more = elim (nat_lt a b) as (λ t. 1 ≤ cond t a b) [
  | true ↦ some
  | false ↦ more
]

module _ (text : Text) (ty : TypeId) (bodies : ℕ) (rooms : Rooms) (h : HostValue) (read : HasRead text ty bodies rooms h) where
  same_objects : rooms.objects ≡ h.basis.rooms.objects
  same_objects = sym (ap (λ (b : Basis). b.rooms.objects) read.fresh.basis_is)

  -- what is declared has the names of the text
  fit : IsFit h.basis
  fit =
      let named = read.spelled.is_trace in
      subst IsFit (sym read.fresh.basis_is) (record {
        is_trace = record {
          rules = subst (λ (b : Basis). KeepsRules b.trace) read.fresh.basis_is read.fresh.serves.rest.book.stands.keeps;
          type_names = named.type_names;
          limit_names = named.limit_names;
          heap_names = named.heap_names;
          types_named = named.types_named;
          limits_named = named.limits_named;
          procs_named = named.procs_named;
          shared_named = named.shared_named;
          has_root = named.has_root;
        };
        second = refl;
      })

  -- there is the directory
  pub first_objects : objects_in h ≡ 1
  first_objects = ap (objects_after h.basis.trace) read.fresh.journal

  pub most_read : (most : ℕ) → most ≡ most_with h rooms.objects → most ≡ most_objects h
  most_read most is = is ∙ ap (most_with h) same_objects

  pub first_listed : (most : ℕ) → most ≡ most_objects h → 1 ≤ most
  first_listed most is =
      let some = read.fit.enough.objects in
      let least = lesser_some (segment_count h.basis.trace * h.basis.rooms.objects) (2 ^ 32 - 1)
      (subst (λ n. 1 ≤ n * h.basis.rooms.objects) (one_first (process_count h.basis.trace) h.basis.trace.shared_heaps)
      (some_room (process_count h.basis.trace + h.basis.trace.shared_heaps) h.basis.rooms.objects (omega (arith, some, same_objects)))) (omega arith) in
      omega (arith, is, least)

  module _ (fits : needed_to_operate h + length h.guests ≤ rooms.events) (count : ℕ) (counted : count ≡ length h.guests) where
    pub read_kept : IsKept h (rooms.events - count)
    read_kept = fresh_kept _ bodies h (rooms.events - count) fit read.fresh (omega (arith, fits, counted))

    pub opened : (freed : List Name) (objects : ℕ) → HasOpened text ty bodies rooms (keeper_of h (rooms.events - count) freed objects 0)
    opened freed objects = record { read = read; all = omega (arith, fits, counted); enough = omega (arith, fits, counted); untaken = refl }

  pub few_events : (test : Bool) → (IsTrue test ↔ (needed_to_operate h + length h.guests ≤ rooms.events)) → test ≡ false → HasFewEvents text ty bodies rooms Terms
  few_events test decides fails = record {
    error_is = refl;
    host = h;
    read = read;
    few = iff_false decides fails;
  }
