-- The second point by its test.
use Rattle.std.proofs.Common.{◌≡◌, ◌∙◌, ◌↔◌, ◌&&◌, ℕ, ◌≤◌, Bool, true, false, List, [], length, get_or, Option, Some, None, refl, sym, subst, inl, inr, arith}
use Rattle.std.specs.Prelude.{IsTrue}
use Rattle.std.specs.List.{list_all, list_any}
use Rattle.std.proofs.lemmas.Bool.{and_from, and_parts, false≢true}
use Rattle.std.proofs.lemmas.List.{get_or_past}
use Rattle.k_types.specs.declared.names.Heap.{Heap}
use Rattle.k_types.specs.declared.names.Name.{Name}
use Rattle.k_types.specs.declared.names.Phase.{Phase}
use Rattle.k_types.specs.declared.names.Phase.TheVariants.{Unmade, Populating, Frozen, Absorbed}
use Rattle.k_types.specs.Names.{directory, heap_eq, leads_to, name_eq}
use Rattle.k_types.specs.Numbers.{numbers_below}
use Rattle.k_types.specs.Owners.{phase_of}
use Rattle.k_types.specs.Sound.{HasNoDangling, IsSized}
use Rattle.k_types.specs.State.{Content, ExitItem, Holds, Object, Refers, State, content_leads_to, has, has_exit, in_registers, refers, refers_in}
use Rattle.k_types.specs.Trace.{Trace, process_count}
use Rattle.k_types.proofs.NameTests.{heap_eq-true, heap_eq_refl, name_eq-true, name_eq_refl}
use Rattle.k_types.proofs.Numbered.{all_at_below, all_below}
use Rattle.k_audit.specs.Tests.{all_registers_there, content_there, is_there, nothing_dangles, object_there, registers_there, root_there, roots_there, target_there}
use Rattle.k_audit.proofs.Means.{all_say, order, said_of_all, none_scanned}

-- the object of that name is there
abbrev there : List Object → Name → Type 0
there objects n = IsTrue (has objects n)

-- ---- references

reference_says : (objects : List Object) (r : Option Name) (n : Name) → is_there objects r ≡ true → leads_to r n ≡ true → there objects n
reference_says objects None n ok leads = absurd (false≢true leads)
reference_says objects (Some m) n ok leads = subst (there objects) (name_eq-true m n leads) ok

reference_holds : (objects : List Object) (r : Option Name) → ((n : Name) → leads_to r n ≡ true → there objects n) → is_there objects r ≡ true
reference_holds objects None each = refl
reference_holds objects (Some m) each = each m (name_eq_refl m)

content_says : (objects : List Object) (c : Content) (n : Name) → content_there objects c ≡ true → content_leads_to n c ≡ true → there objects n
content_says objects (Refers r) n ok leads = reference_says objects r n ok leads
content_says objects (Holds number) n ok leads = absurd (false≢true leads)

content_holds : (objects : List Object) (c : Content) → ((n : Name) → content_leads_to n c ≡ true → there objects n) → content_there objects c ≡ true
content_holds objects (Refers r) each = reference_holds objects r each
content_holds objects (Holds number) each = refl

object_says : (objects : List Object) (o : Object) (n : Name) → object_there objects o ≡ true → refers o n ≡ true → there objects n
object_says objects o n ok leads =
    all_say {A = Content} {N = Name} (λ m c. content_leads_to m c) (there objects) (content_there objects) (content_says objects) o.fields ok n leads

object_holds : (objects : List Object) (o : Object) → ((n : Name) → refers o n ≡ true → there objects n) → object_there objects o ≡ true
object_holds objects o each =
    said_of_all {A = Content} {N = Name} (λ m c. content_leads_to m c) (there objects) (content_there objects) (content_holds objects) o.fields each

-- ---- fields of objects: a pair of names, from and to

abbrev leads_from : Name × Name → Object → Bool
leads_from pair o = name_eq o.name pair.0 && refers o pair.1

pub fields_say : (objects : List Object) → list_all (object_there objects) objects ≡ true → (x y : Name) → refers_in objects x y ≡ true → there objects y
fields_say objects all x y leads =
    all_say {A = Object} {N = Name × Name} leads_from (λ pair. there objects pair.1) (object_there objects)
    (λ o pair ok from. object_says objects o pair.1 ok (and_parts (name_eq o.name pair.0) (refers o pair.1) from).1) objects all (x, y) leads

pub fields_hold : (objects : List Object) → ((x y : Name) → refers_in objects x y ≡ true → there objects y) → list_all (object_there objects) objects ≡ true
fields_hold objects each =
    said_of_all {A = Object} {N = Name × Name} leads_from (λ pair. there objects pair.1) (object_there objects)
    (λ o holds. object_holds objects o (λ n leads. holds (o.name, n) (and_from (name_eq o.name o.name) (refers o n) (name_eq_refl o.name) leads)))
    objects (λ pair leads. each pair.0 pair.1 leads)

-- ---- registers

one_says : (objects : List Object) (registers : List (Option Name)) → registers_there objects registers ≡ true → (n : Name) → list_any (λ r. leads_to r n) registers ≡ true → there objects n
one_says objects registers ok n leads =
    all_say {A = Option Name} {N = Name} (λ m r. leads_to r m) (there objects) (is_there objects) (reference_says objects) registers ok n leads

one_holds : (objects : List Object) (registers : List (Option Name)) → ((n : Name) → list_any (λ r. leads_to r n) registers ≡ true → there objects n) → registers_there objects registers ≡ true
one_holds objects registers each =
    said_of_all {A = Option Name} {N = Name} (λ m r. leads_to r m) (there objects) (is_there objects) (reference_holds objects) registers each

-- a process past the last has no registers
pub no_registers : (registers : List (List (Option Name))) (p : ℕ) (n : Name) → length registers ≤ p → in_registers registers p n ≡ false
no_registers registers p n past = rw (get_or_past registers p [] past) refl

registers_say : (trace : Trace) (st : State) → IsSized trace st → all_registers_there trace st ≡ true → (p : ℕ) (n : Name) → in_registers st.registers p n ≡ true → there st.objects n
registers_say trace st sized all p n leads =
    elim (order p (process_count trace)) [
      | inl inside ↦ one_says st.objects (get_or st.registers p []) (all_at_below (λ q. registers_there st.objects (get_or st.registers q [])) (process_count trace) p all inside) n leads
      | inr past ↦ absurd (false≢true (sym (no_registers st.registers p n (omega (arith, sized.registers, past))) ∙ leads))
    ]

registers_hold : (trace : Trace) (st : State) → ((p : ℕ) (n : Name) → in_registers st.registers p n ≡ true → there st.objects n) → all_registers_there trace st ≡ true
registers_hold trace st each =
    all_below (λ q. registers_there st.objects (get_or st.registers q [])) (process_count trace) (λ p inside. one_holds st.objects (get_or st.registers p []) (λ n leads. each p n leads))

-- ---- exit items: a pair of heap and target

pub exits_say : (says : Heap × Name → Type 0) (test : ExitItem → Bool) → ((e : ExitItem) → test e ≡ true → says (e.heap, e.target)) → (exits : List ExitItem) → list_all test exits ≡ true → (h : Heap) (n : Name) → has_exit exits h n ≡ true → says (h, n)
exits_say says test each exits all h n there =
    all_say {A = ExitItem} {N = Heap × Name} (λ pair e. heap_eq e.heap pair.0 && name_eq e.target pair.1) says test
    (λ e pair ok same.
    let parts = and_parts (heap_eq e.heap pair.0) (name_eq e.target pair.1) same in
    subst (λ (g : Heap). says (g, pair.1)) (heap_eq-true e.heap pair.0 parts.0) (subst (λ (m : Name). says (e.heap, m)) (name_eq-true e.target pair.1 parts.1) (each e ok)))
    exits all (h, n) there

pub exits_hold : (says : Heap × Name → Type 0) (test : ExitItem → Bool) → ((e : ExitItem) → says (e.heap, e.target) → test e ≡ true) → (exits : List ExitItem) → ((h : Heap) (n : Name) → has_exit exits h n ≡ true → says (h, n)) → list_all test exits ≡ true
exits_hold says test each exits holds =
    said_of_all {A = ExitItem} {N = Heap × Name} (λ pair e. heap_eq e.heap pair.0 && name_eq e.target pair.1) says test
    (λ e here. each e (here (e.heap, e.target) (and_from (heap_eq e.heap e.heap) (name_eq e.target e.target) (heap_eq_refl e.heap) (name_eq_refl e.target))))
    exits (λ pair there. holds pair.0 pair.1 there)

-- ---- phases

-- what holds of the phase of each shared heap holds of any that is not unmade
pub phase_at : (trace : Trace) (st : State) → IsSized trace st → (test : ℕ → Phase → Bool) → list_all (λ s. test s (phase_of st.phases s)) (numbers_below trace.shared_heaps) ≡ true →
    (s : ℕ) (phase : Phase) → phase_of st.phases s ≡ phase → (phase ≡ Unmade → ⊥) → test s phase ≡ true
phase_at trace st sized test all s phase is made =
    elim (order s trace.shared_heaps) [
      | inl inside ↦ subst (λ (x : Phase). test s x ≡ true) is (all_at_below (λ t. test t (phase_of st.phases t)) trace.shared_heaps s all inside)
      | inr past ↦ absurd (made (sym is ∙ get_or_past st.phases s Unmade (omega (arith, sized.phases, past))))
    ]

root_holds : (objects : List Object) (phase : Phase) → ((root : Name) → phase ≡ Frozen root → there objects root) → root_there objects phase ≡ true
root_holds objects Unmade each = refl
root_holds objects (Populating p) each = refl
root_holds objects (Frozen root) each = each root refl
root_holds objects Absorbed each = refl

-- ---- the point

pub dangling_law : (trace : Trace) (st : State) → IsSized trace st → st.scans ≡ [] → (nothing_dangles trace st ≡ true) ↔ HasNoDangling st
dangling_law trace st sized none = (
  λ all.
      let a = and_parts (has st.objects directory && list_all (object_there st.objects) st.objects && all_registers_there trace st && list_all (target_there st.objects) st.exits) (roots_there trace st) all in
      let b = and_parts (has st.objects directory && list_all (object_there st.objects) st.objects && all_registers_there trace st) (list_all (target_there st.objects) st.exits) a.0 in
      let c = and_parts (has st.objects directory && list_all (object_there st.objects) st.objects) (all_registers_there trace st) b.0 in
      let d = and_parts (has st.objects directory) (list_all (object_there st.objects) st.objects) c.0 in
      record {
        directory = d.0;
        fields = fields_say st.objects d.1;
        registers = registers_say trace st sized c.1;
        exits = exits_say (λ pair. there st.objects pair.1) (target_there st.objects) (λ e ok. ok) st.exits b.1;
        scans = λ h roots n is among. absurd (none_scanned st.scans h roots none is);
        frozen = λ s root is. phase_at trace st sized (λ t phase. root_there st.objects phase) a.1 s (Frozen root) is (λ e. absurd cc);
      },
  λ holds.
      and_from (has st.objects directory && list_all (object_there st.objects) st.objects && all_registers_there trace st && list_all (target_there st.objects) st.exits) (roots_there trace st)
      (and_from (has st.objects directory && list_all (object_there st.objects) st.objects && all_registers_there trace st) (list_all (target_there st.objects) st.exits)
      (and_from (has st.objects directory && list_all (object_there st.objects) st.objects) (all_registers_there trace st)
      (and_from (has st.objects directory) (list_all (object_there st.objects) st.objects) holds.directory (fields_hold st.objects holds.fields))
      (registers_hold trace st holds.registers))
      (exits_hold (λ pair. there st.objects pair.1) (target_there st.objects) (λ e ok. ok) st.exits holds.exits))
      (all_below (λ s. root_there st.objects (phase_of st.phases s)) trace.shared_heaps (λ s inside. root_holds st.objects (phase_of st.phases s) (holds.frozen s))),
)
