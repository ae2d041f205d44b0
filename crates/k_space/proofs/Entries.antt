-- The serials of entries of the list of live objects.
use Rattle.std.proofs.Common.{◌≡◌, ℕ, ◌-◌, sym, ap, ◌∙◌, List, [], ◌∷◌, ◌++◌, length, get_or, arith}
use Rattle.std.proofs.Math.ListN.{get_or-map}
use Rattle.std.proofs.lemmas.List.{length-map, map-append}
use Rattle.k_space.specs.declared.live.Entry.{Entry}
use Rattle.k_space.specs.Listed.{serials}
use Rattle.k_space.proofs.Numbers.{IsWithout}

pub length_serials : (live : List Entry) → length (serials live) ≡ length live
length_serials live = length-map live (λ (e : Entry). e.serial)

-- the serial of one entry
pub serial_there : (live : List Entry) (k serial slot : ℕ) → get_or (serials live) k serial ≡ (get_or live k (record { serial = serial; slot = slot })).serial
serial_there live k serial slot = get_or-map (λ (e : Entry). e.serial) live k (record { serial = serial; slot = slot })

-- that of one that was read
pub serial_read : (live : List Entry) (k : ℕ) (entry : Entry) → entry ≡ get_or live k entry → entry.serial ≡ get_or (serials live) k entry.serial
serial_read live k entry read = ap (λ (e : Entry). e.serial) read ∙ sym (serial_there live k entry.serial entry.slot)

-- one entry more
pub serials_pushed : (live : List Entry) (serial slot : ℕ) → serials (live ++ record { serial = serial; slot = slot } ∷ []) ≡ serials live ++ serial ∷ []
serials_pushed live serial slot = map-append (λ (e : Entry). e.serial) live (record { serial = serial; slot = slot } ∷ [])

-- the serials without that of one entry
pub serials_without : (live after : List Entry) (i : ℕ) → IsWithout live after i → IsWithout (serials live) (serials after) i
serials_without live after i was = record {
  len = omega (arith, was.len, length_serials live, length_serials after);
  within = omega (arith, was.within, length_serials live);
  moved = λ d more.
      serial_there after i d 0
      ∙ ap (λ (e : Entry). e.serial) (was.moved (record { serial = d; slot = 0 }) (omega (arith, more, length_serials live)))
      ∙ sym (serial_there live (length live - 1) d 0)
      ∙ ap (λ n. get_or (serials live) (n - 1) d) (sym (length_serials live));
  others = λ k d apart more.
      serial_there after k d 0
      ∙ ap (λ (e : Entry). e.serial) (was.others k (record { serial = d; slot = 0 }) apart (omega (arith, more, length_serials live)))
      ∙ sym (serial_there live k d 0);
}
