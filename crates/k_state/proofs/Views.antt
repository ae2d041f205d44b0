-- A state of which one list is another.
use Rattle.std.proofs.Common.{◌≡◌, ap₂, List}
use Rattle.k_types.specs.State.{ExitItem, Object, Scan, Sharing}
use Rattle.k_state.specs.Machines.{Machine}

pub exits_are : (m n : Machine) (exits exits' : List ExitItem) → m ≡ n → exits ≡ exits' → record m.state { exits = exits } ≡ record n.state { exits = exits' }
exits_are m n exits exits' same are = ap₂ (λ (k : Machine) xs. record k.state { exits = xs }) same are

pub shares_are : (m n : Machine) (shares shares' : List Sharing) → m ≡ n → shares ≡ shares' → record m.state { shares = shares } ≡ record n.state { shares = shares' }
shares_are m n shares shares' same are = ap₂ (λ (k : Machine) xs. record k.state { shares = xs }) same are

pub scans_are : (m n : Machine) (scans scans' : List Scan) → m ≡ n → scans ≡ scans' → record m.state { scans = scans } ≡ record n.state { scans = scans' }
scans_are m n scans scans' same are = ap₂ (λ (k : Machine) xs. record k.state { scans = xs }) same are

pub objects_are : (m n : Machine) (objects objects' : List Object) → m ≡ n → objects ≡ objects' → record m.state { objects = objects } ≡ record n.state { objects = objects' }
objects_are m n objects objects' same are = ap₂ (λ (k : Machine) xs. record k.state { objects = xs }) same are
