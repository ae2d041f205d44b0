-- Three objects of a reference, a reference and an integer: the first refers to the second in both reference fields, the second back to
-- the first, and nothing to the third.
use Rattle.std.specs.Prelude.{◌≡◌, ℕ, List, [], ◌∷◌, Option, Some, None}
use Rattle.k_laws.specs.k_types.declared.names.Name.{Name}
use Rattle.k_laws.specs.k_types.declared.names.Field.{Field}
use Rattle.k_laws.specs.k_types.declared.names.Field.TheVariants.{Ref, Int}
use Rattle.k_laws.specs.k_types.State.{Refers, Holds}
use Rattle.k_laws.specs.k_types.declared.names.Link.{Link}
use Rattle.k_laws.specs.k_types.Names.{name_of}
use Rattle.k_space.specs.Segments.{Color, White, Row, SegmentValue}
use Rattle.k_space.specs.Areas.{AreaValue}

-- the one type: two references and an integer
abbrev pub node_types : List (List Field)
node_types = (Ref ∷ Ref ∷ Int ∷ []) ∷ []

-- the name of the node of that serial
abbrev pub node_name : ℕ → Name
node_name serial = record { seg = record { 0 = 1 }; serial = record { 0 = serial } }

-- a node in a slot, with its mark and what its reference fields refer to
abbrev pub node : ℕ → Color → Option Name → Option Name → Row
node slot color one other = record { slot = slot; color = color; ty = Some (record { 0 = 0 }); fields = Refers one ∷ Refers other ∷ Holds 0 ∷ [] }

-- the segment of three nodes in these slots, without marks, and what the reference fields of the first and the second refer to
abbrev pub nodes_of : ℕ → ℕ → ℕ → Option Name → Option Name → Option Name → SegmentValue
nodes_of x y z one other back = record {
  number = 1;
  room = 3;
  rows = None ∷ Some (node x White one other) ∷ Some (node y White back None) ∷ Some (node z White None None) ∷ [];
}

-- three new nodes, of which these are the first two
pub record ArePlaced (s : SegmentValue) (first second : Link) : Type 0 where
  pub z : ℕ
  pub is : s ≡ nodes_of first.slot.0 second.slot.0 z None None None
  pub first_is : name_of first ≡ node_name 1
  pub second_is : name_of second ≡ node_name 2

-- the first refers to the second in both fields, and the second back to the first
pub record AreConnected (s : SegmentValue) (first second : Link) : Type 0 where
  pub z : ℕ
  pub is : s ≡ nodes_of first.slot.0 second.slot.0 z (Some (node_name 2)) (Some (node_name 2)) (Some (node_name 1))

-- three nodes in these slots, with these marks
abbrev pub three_nodes : ℕ → ℕ → ℕ → Color → Color → Color → AreaValue
three_nodes x y z first second third = record {
  segments = record {
    number = 1;
    room = 3;
    rows = None ∷ Some (node x first (Some (node_name 2)) (Some (node_name 2))) ∷ Some (node y second (Some (node_name 1)) None) ∷ Some (node z third None None) ∷ [];
  } ∷ [];
  room = 1;
}

-- the area is the three nodes, in some slots
pub record AreNodes (a : AreaValue) (first second third : Color) : Type 0 where
  pub x : ℕ
  pub y : ℕ
  pub z : ℕ
  pub is : a ≡ three_nodes x y z first second third
