-- What a text can say has the shape that the lists ask for.
use Rattle.std.proofs.Common.{◌≡◌, suc, ◌-◌, ◌^◌, ◌<◌, ◌≤◌, List, [], ◌∷◌, ◌++◌, length, map, Option, Some, None, ap, arith, codes, length-append}
use Rattle.std.specs.List.{AllByRecursion, join_with_byte}
use Rattle.std.proofs.lemmas.List.{length-map, length-replicate}
use Rattle.k_types.specs.declared.names.Field.{Field}
use Rattle.k_types.specs.declared.names.Field.TheVariants.{Ref}
use Rattle.k_types.specs.declared.names.Heap.{Heap}
use Rattle.k_types.specs.declared.names.Phase.{Phase}
use Rattle.k_types.specs.declared.names.Phase.TheVariants.{Unmade, Populating, Frozen, Absorbed}
use Rattle.k_types.specs.declared.names.TypeId.{TypeId}
use Rattle.k_types.specs.Known.{IsKnownPhase}
use Rattle.k_types.specs.Sound.{AreNumbered, kinds_by}
use Rattle.k_types.specs.State.{Object, field_kind}
use Rattle.k_types.specs.Trace.{Trace}
use Rattle.k_words.specs.Words.{Text, line_text, text_of}
use Rattle.k_trace.specs.Named.{DeclaredNames}
use Rattle.k_state.specs.Machines.{IsDeclared, IsPlain}
use Rattle.k_state.specs.Setups.{AreSetupRules}
use Rattle.k_audit.specs.Claims.{Snap}
use Rattle.k_audit.specs.Grammar.{IsSpelledObject, IsSpelledPhase, IsSpelledSnap}
use Rattle.k_audit.specs.Lines.{charge_lines, exit_line, gone_words, made_lines, object_lines, root_lines, share_words, snap_lines, snap_text}

few_kinds : (trace : Trace) → AreSetupRules trace → (ty : Option TypeId) → length (kinds_by trace ty) ≤ 16
few_kinds trace rules None = let few = rules.directory in let long = length-replicate {A = Field} trace.dir_fields Ref in omega (arith, few, long)
few_kinds trace rules (Some ty) = rules.fields ty

declared_of : (trace : Trace) → AreSetupRules trace → (o : Object) → IsSpelledObject trace o → IsDeclared trace o
declared_of trace rules o spelled = record {
  ty = spelled.typed.declared;
  fields =
      let kinds : length (map field_kind o.fields) ≡ length (kinds_by trace o.ty) = ap length spelled.typed.kinds in
      let same = length-map o.fields field_kind in
      let few = few_kinds trace rules o.ty in
      omega (arith, kinds, same, few);
  seg = spelled.name.known;
}

all_declared : (trace : Trace) → AreSetupRules trace → (objects : List Object) → AllByRecursion (IsSpelledObject trace) objects → AllByRecursion (IsDeclared trace) objects
all_declared trace rules [] all = tt
all_declared trace rules (o ∷ objects) all = (declared_of trace rules o all.0, all_declared trace rules objects all.1)

known_phase : (trace : Trace) (phase : Phase) → IsSpelledPhase trace phase → IsKnownPhase trace phase
known_phase trace Unmade spelled = tt
known_phase trace (Populating p) spelled = spelled
known_phase trace (Frozen root) spelled = spelled.known
known_phase trace Absorbed spelled = tt

all_known : (trace : Trace) (phases : List Phase) → AllByRecursion (IsSpelledPhase trace) phases → AllByRecursion (IsKnownPhase trace) phases
all_known trace [] all = tt
all_known trace (phase ∷ phases) all = (known_phase trace phase all.0, all_known trace phases all.1)

pub plain_of : (trace : Trace) (snap : Snap) → AreSetupRules trace → IsSpelledSnap trace snap → AreNumbered snap.state.objects snap.state.made → length snap.state.objects < 2 ^ 32 → length snap.state.exits < 2 ^ 32 →
    IsPlain (record { setup = trace; state = snap.state })
plain_of trace snap rules spelled numbered few few_exits = record {
  setup = rules;
  sized = spelled.state.sized;
  few = few;
  few_exits = few_exits;
  names = record { ordered = spelled.state.ordered; numbered = numbered };
  declared = all_declared trace rules snap.state.objects spelled.state.objects;
  phases = all_known trace snap.state.phases spelled.state.phases;
  maxima = spelled.state.maxima;
}

-- ---- how many there are

lines_in_text : (wss : List (List Text)) → length wss ≤ length (text_of wss)
lines_in_text [] = omega arith
lines_in_text (ws ∷ wss) =
    let rest = lines_in_text wss in
    let one = length-append (join_with_byte 32 ws) (10 ∷ []) in
    let all = length-append (line_text ws) (text_of wss) in
    omega (arith, rest, one, all)

object_lines_all : (names : DeclaredNames) (owners : List Heap) (objects : List Object) → length owners ≡ length objects → length (object_lines names owners objects) ≡ length objects
object_lines_all names [] [] same = ap (λ n. n) same
object_lines_all names [] (o ∷ objects) same = absurd (omega (arith, same))
object_lines_all names (h ∷ owners) [] same = absurd (omega (arith, same))
object_lines_all names (h ∷ owners) (o ∷ objects) same = ap suc (object_lines_all names owners objects (omega (arith, same)))

parts_within : {A : Type 0} (s m gr ro ex : A) (g ml ol rl el rest : List A) →
    (length ol ≤ length (s ∷ (g ++ (m ∷ (ml ++ (gr ∷ (ol ++ (ro ∷ (rl ++ (ex ∷ (el ++ rest)))))))))))
    × (length el ≤ length (s ∷ (g ++ (m ∷ (ml ++ (gr ∷ (ol ++ (ro ∷ (rl ++ (ex ∷ (el ++ rest)))))))))))
parts_within s m gr ro ex g ml ol rl el rest =
    let a = length-append el rest in
    let b = length-append rl (ex ∷ (el ++ rest)) in
    let c = length-append ol (ro ∷ (rl ++ (ex ∷ (el ++ rest)))) in
    let d = length-append ml (gr ∷ (ol ++ (ro ∷ (rl ++ (ex ∷ (el ++ rest)))))) in
    let e = length-append g (m ∷ (ml ++ (gr ∷ (ol ++ (ro ∷ (rl ++ (ex ∷ (el ++ rest)))))))) in
    (omega (arith, a, b, c, d, e), omega (arith, a, b, c, d, e))

-- no more than the bytes of the text
pub few_in_text : (names : DeclaredNames) (trace : Trace) (snap : Snap) (bytes : Text) → IsSpelledSnap trace snap → snap_text names trace snap ≡ bytes → length bytes < 2 ^ 32 - 1 →
    (length snap.state.objects < 2 ^ 32) × (length snap.state.exits < 2 ^ 32)
few_in_text names trace snap bytes spelled text few =
    let lines = lines_in_text (snap_lines names trace snap) in
    let same = ap length text in
    let objects = object_lines_all names snap.claims.owners snap.state.objects spelled.claims.owners in
    let exits = length-map snap.state.exits (exit_line names) in
    let within = parts_within {A = List Text} (codes "snapshot" ∷ codes "1" ∷ []) (codes "made" ∷ []) (codes "graph" ∷ []) (codes "roots" ∷ []) (codes "exits" ∷ [])
    (map (gone_words names) snap.state.ended) (made_lines names 0 snap.state.made) (object_lines names snap.claims.owners snap.state.objects) (root_lines names trace snap.state) (map (exit_line names) snap.state.exits)
    ((codes "shares" ∷ []) ∷ (map (share_words names) snap.state.shares ++ ((codes "charges" ∷ []) ∷ (charge_lines names snap ++ ((codes "end" ∷ []) ∷ []))))) in
    let first = within.0 in
    let second = within.1 in
    (omega (arith, lines, same, objects, first, few), omega (arith, lines, same, exits, second, few))
