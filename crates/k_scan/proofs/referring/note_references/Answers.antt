use Rattle.std.proofs.Common.{◌≡◌, ℕ, ◌+◌, ◌||◌, Bool, ap, sym, ◌∙◌, take}
use Rattle.std.specs.List.{list_any}
use Rattle.std.proofs.lemmas.List.{take_all}
use Rattle.std.proofs.lemmas.List.Folds.{list_any_more}
use Rattle.k_types.specs.Names.{leads_to, name_eq}
use Rattle.k_state.specs.Contents.{content}
use Rattle.k_state.specs.declared.objects.FieldValue.{FieldValue}
use Rattle.k_types.specs.declared.names.Name.{Name}
use Rattle.k_types.specs.State.{content_leads_to, refers}
use Rattle.k_scan.proofs.Noted.{noted_more, noted_same, or_false}
use Rattle.k_scan.proofs.References.{any_mapped}
use Rattle.k_scan.proofs.referring.note_references.Goals as goal
use Rattle.k_scan.proofs.referring.note_references.Goals.{in-Some, in_default}

pub returns : goal.returns
returns c =
    let values = c.fields-value-items.result.now in
    let leads : Name → FieldValue → Bool = λ n value. content_leads_to n (content value) in
    let all : take c.loop-value.value-index values ≡ values = take_all c.loop-value.value-index values c.loop-value-test.false in
    let test : (n : Name) → refers c.args.object.now n ≡ list_any (leads n) (take c.loop-value.value-index values)
    = λ n.
    sym (ap (list_any (leads n)) all
    ∙ sym (any_mapped content (content_leads_to n) values)
    ∙ ap (list_any (content_leads_to n)) c.fields-value-items.ensures) in
    noted_same _ _ _ _ _ _ test c.loop-value.invariant

pub loop-value-preserved : goal.loop-value-preserved
loop-value-preserved c =
    let exits = c.args.lists.now.state.exits in
    let h = c.args.heap in
    let values = c.fields-value-items.result.now in
    let i = c.loop-value.value-index in
    let leads : Name → FieldValue → Bool = λ n value. content_leads_to n (content value) in
    let some : ℕ → Name → Bool = λ k n. list_any (leads n) (take k values) in
    let more : (n : Name) → some (i + 1) n ≡ (some i n || leads_to c.target_of.result n)
    = λ n. list_any_more (leads n) values i _ c.loop-value-test.true ∙ ap (λ b. some i n || b) (sym (c.target_of.ensures n)) in
    elim c.match-target_of.branch [
      | in-Some w ↦
          rw w.noted-is
          (noted_more exits h (some i) (λ n. name_eq w.in-Some.target n) (some (i + 1)) c.args.noted.now c.loop-value.noted w.note.new.noted
          (λ n. more n ∙ ap (λ r. some i n || leads_to r n) w.in-Some.is) c.loop-value.invariant w.note.ensures)
      | in_default w ↦
          rw w.noted-is
          (noted_same exits h (some i) (some (i + 1)) c.args.noted.now c.loop-value.noted
          (λ n. more n ∙ ap (λ r. some i n || leads_to r n) w.in_default.is ∙ or_false (some i n)) c.loop-value.invariant)
    ]
