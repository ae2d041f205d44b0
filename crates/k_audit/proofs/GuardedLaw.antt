-- The third point by its test.
use Rattle.std.proofs.Common.{◌≡◌, ◌↔◌, ◌&&◌, ◌||◌, ℕ, Bool, true, List, Option, Some, None, refl, subst}
use Rattle.std.specs.Prelude.{IsTrue, IsFalse}
use Rattle.std.specs.List.{list_all}
use Rattle.std.proofs.lemmas.Bool.{and_from, and_parts, false≢true}
use Rattle.k_types.specs.declared.names.Heap.{Heap}
use Rattle.k_types.specs.declared.names.Name.{Name}
use Rattle.k_types.specs.Names.{heap_eq, leads_to, name_eq}
use Rattle.k_types.specs.Sound.{AreGuarded, IsLegalStore}
use Rattle.k_types.specs.State.{Content, ExitItem, Holds, Object, Refers, content_leads_to, has_exit, refers, refers_in}
use Rattle.k_types.proofs.NameTests.{name_eq-true, name_eq_refl}
use Rattle.k_audit.specs.Tests.{content_guarded, object_guarded, passes, reference_guarded}
use Rattle.k_audit.proofs.Means.{all_say, said_of_all, or_where}
use Rattle.k_types.proofs.Tests.{or_second}

-- a reference of an object of the heap to that name is lawful
record IsLawful (own : ℕ → Heap) (exits : List ExitItem) (from : Heap) (n : Name) : Type 0 where
  allowed : IsLegalStore from (own n.seg.0)
  listed : IsFalse (heap_eq from (own n.seg.0)) → IsTrue (has_exit exits from n)

reference_says : (own : ℕ → Heap) (exits : List ExitItem) (from : Heap) (r : Option Name) (n : Name) → reference_guarded own exits from r ≡ true → leads_to r n ≡ true → IsLawful own exits from n
reference_says own exits from None n ok leads = absurd (false≢true leads)
reference_says own exits from (Some m) n ok leads =
    let parts = and_parts (passes from (own m.seg.0)) (heap_eq from (own m.seg.0) || has_exit exits from m) ok in
    subst (IsLawful own exits from) (name_eq-true m n leads)
    (record { allowed = parts.0; listed = or_second (heap_eq from (own m.seg.0)) (has_exit exits from m) parts.1 })

reference_holds : (own : ℕ → Heap) (exits : List ExitItem) (from : Heap) (r : Option Name) → ((n : Name) → leads_to r n ≡ true → IsLawful own exits from n) → reference_guarded own exits from r ≡ true
reference_holds own exits from None each = refl
reference_holds own exits from (Some m) each =
    let lawful = each m (name_eq_refl m) in
    and_from (passes from (own m.seg.0)) (heap_eq from (own m.seg.0) || has_exit exits from m) lawful.allowed
    (or_where (heap_eq from (own m.seg.0)) (has_exit exits from m) lawful.listed)

content_says : (own : ℕ → Heap) (exits : List ExitItem) (from : Heap) (c : Content) (n : Name) → content_guarded own exits from c ≡ true → content_leads_to n c ≡ true → IsLawful own exits from n
content_says own exits from (Refers r) n ok leads = reference_says own exits from r n ok leads
content_says own exits from (Holds number) n ok leads = absurd (false≢true leads)

content_holds : (own : ℕ → Heap) (exits : List ExitItem) (from : Heap) (c : Content) → ((n : Name) → content_leads_to n c ≡ true → IsLawful own exits from n) → content_guarded own exits from c ≡ true
content_holds own exits from (Refers r) each = reference_holds own exits from r each
content_holds own exits from (Holds number) each = refl

object_says : (own : ℕ → Heap) (exits : List ExitItem) (o : Object) (n : Name) → object_guarded own exits o ≡ true → refers o n ≡ true → IsLawful own exits (own o.name.seg.0) n
object_says own exits o n ok leads =
    let from = own o.name.seg.0 in
    all_say {A = Content} {N = Name} (λ m c. content_leads_to m c) (IsLawful own exits from) (content_guarded own exits from) (content_says own exits from) o.fields ok n leads

object_holds : (own : ℕ → Heap) (exits : List ExitItem) (o : Object) → ((n : Name) → refers o n ≡ true → IsLawful own exits (own o.name.seg.0) n) → object_guarded own exits o ≡ true
object_holds own exits o each =
    let from = own o.name.seg.0 in
    said_of_all {A = Content} {N = Name} (λ m c. content_leads_to m c) (IsLawful own exits from) (content_guarded own exits from) (content_holds own exits from) o.fields each

abbrev leads_from : Name × Name → Object → Bool
leads_from pair o = name_eq o.name pair.0 && refers o pair.1

-- the reference from the one name to the other is lawful
abbrev lawful_pair : (ℕ → Heap) → List ExitItem → Name × Name → Type 0
lawful_pair own exits pair = IsLawful own exits (own pair.0.seg.0) pair.1

all_lawful : (own : ℕ → Heap) (objects : List Object) (exits : List ExitItem) → list_all (object_guarded own exits) objects ≡ true → (x y : Name) → refers_in objects x y ≡ true → IsLawful own exits (own x.seg.0) y
all_lawful own objects exits all x y leads =
    all_say {A = Object} {N = Name × Name} leads_from (lawful_pair own exits) (object_guarded own exits)
    (λ o pair ok from.
    let parts = and_parts (name_eq o.name pair.0) (refers o pair.1) from in
    subst (λ (m : Name). IsLawful own exits (own m.seg.0) pair.1) (name_eq-true o.name pair.0 parts.0) (object_says own exits o pair.1 ok parts.1))
    objects all (x, y) leads

pub guarded_law : (own : ℕ → Heap) (objects : List Object) (exits : List ExitItem) → (list_all (object_guarded own exits) objects ≡ true) ↔ AreGuarded own objects exits
guarded_law own objects exits = (
  λ all. record {
    allowed = λ x y leads. (all_lawful own objects exits all x y leads).allowed;
    listed = λ x y leads. (all_lawful own objects exits all x y leads).listed;
  },
  λ holds.
      said_of_all {A = Object} {N = Name × Name} leads_from (lawful_pair own exits) (object_guarded own exits)
      (λ o each. object_holds own exits o (λ n leads. each (o.name, n) (and_from (name_eq o.name o.name) (refers o n) (name_eq_refl o.name) leads)))
      objects (λ pair leads. record { allowed = holds.allowed pair.0 pair.1 leads; listed = holds.listed pair.0 pair.1 leads }),
)
