-- What the kernel's cell shows at first.
use Rattle.std.proofs.Common.{◌≡◌, ◌==◌, ℕ, zero, suc, ◌+◌, ◌<◌, ◌≤◌, cond, refl, inl, sym, ap, ◌∙◌, List, [], ◌∷◌, map, get_or, set, Option, Some, None, ne_eqb, arith}
use Rattle.k_types.specs.declared.setup.Setup.{Setup}
use Rattle.k_types.specs.Numbers.{numbers_below}
use Rattle.k_cell.specs.CellChanges.{given}
use Rattle.k_cell.specs.k_space.Objects.{new_directory}
use Rattle.k_cell.specs.k_tie.Values.{NoteValue}
use Rattle.k_cell.specs.declared.rooms.HoldingRooms.{HoldingRooms}
use Rattle.k_cell.specs.Changes.{with_body}
use Rattle.k_cell.specs.Holdings.{HasObjectRoom, fresh_cell, fresh_holdings}
use Rattle.k_kernel.specs.Kernels.{opened_kernel, segments_of}
use Rattle.k_types.proofs.Lists.{set_below}

-- what is listed for the number 0
first_listed : (f : ℕ → Option ℕ) (n : ℕ) → 0 < n → get_or (map f (numbers_below n)) 0 None ≡ f 0
first_listed f zero within = absurd (omega (arith, within))
first_listed f (suc n) within = refl

abbrev pub rooms_of : Setup → ℕ → ℕ → HoldingRooms
rooms_of setup objects exits = record { bound = segments_of setup; segments = segments_of setup; objects = objects; exits = exits }

some_bound : (setup : Setup) → 0 < segments_of setup
some_bound setup = omega arith

given_at_first : (setup : Setup) → get_or (fresh_cell (segments_of setup) 0).made 0 None ≡ Some 0
given_at_first setup = first_listed (λ number. cond (number == 0) (Some 0) None) (segments_of setup) (some_bound setup)

pub serial_left : (setup : Setup) (objects exits : ℕ) (note : NoteValue) → 1 ≤ objects → HasObjectRoom (fresh_holdings 0 (rooms_of setup objects exits) note) 0
serial_left setup objects exits note some = record {
  given = 0;
  room = objects;
  there = given_at_first setup;
  can_give = first_listed (λ number. cond (number == 0) (Some objects) None) (segments_of setup) (some_bound setup);
  left = inl (omega (arith, some));
}

-- the directory is placed
made_then : (setup : Setup) → set (fresh_cell (segments_of setup) 0).made 0 (Some 1) ≡ map (λ seg. cond (seg == 0) (Some 1) None) (numbers_below (segments_of setup))
made_then setup =
    sym (set_below (λ seg. cond (seg == 0) (Some 1) None) (λ seg. cond (seg == 0) (Some 0) None) (segments_of setup) 0 (Some 1) refl
    (λ i ne. ap (λ b. cond b (Some 1) None) (ne_eqb i 0 ne) ∙ sym (ap (λ b. cond b (Some 0) None) (ne_eqb i 0 ne))))

pub opened_seen : (setup : Setup) (objects exits : ℕ) (note : NoteValue) →
    record (fresh_holdings 0 (rooms_of setup objects exits) note) { value = with_body 0 (new_directory setup.dir_fields) (fresh_cell (segments_of setup) 0) } ≡ opened_kernel setup objects exits note
opened_seen setup objects exits note =
    ap (λ (o : Option ℕ). record (fresh_holdings 0 (rooms_of setup objects exits) note) {
      value = record (fresh_cell (segments_of setup) 0) {
        objects = record { name = record { seg = record { 0 = 0 }; serial = record { 0 = given o + 1 } }; ty = None; fields = (new_directory setup.dir_fields).fields } ∷ [];
        made = set (fresh_cell (segments_of setup) 0).made 0 (Some (given o + 1));
      };
    }) (given_at_first setup)
    ∙ ap (λ (ms : List (Option ℕ)). record (fresh_holdings 0 (rooms_of setup objects exits) note) {
      value = record (fresh_cell (segments_of setup) 0) {
        objects = record { name = record { seg = record { 0 = 0 }; serial = record { 0 = 1 } }; ty = None; fields = (new_directory setup.dir_fields).fields } ∷ [];
        made = ms;
      };
    }) (made_then setup)
