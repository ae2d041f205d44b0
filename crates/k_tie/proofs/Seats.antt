-- What the views of the values say of the seats.
use Rattle.std.proofs.Common.{◌≡◌, ℕ, [], ◌<◌, refl, sym, ap, ◌∙◌, subst, arith}
use Rattle.atomic_table.specs.Seated.{TableId}
use Rattle.k_tie.specs.declared.view.View.{View}
use Rattle.k_tie.specs.declared.view.View.TheVariants.{Journal, Note, Spent}
use Rattle.atomic_table.specs.Table.{Me}
use Rattle.k_tie.specs.declared.view.CellView.{CellView}
use Rattle.k_tie.specs.Values.{JournalValue, NoteValue, journal_value, note_value, note_view}

pub journal_table : (t : TableId) (v : View) → (journal_value t v).table ≡ t
journal_table t (Journal l ts hs) = refl
journal_table t (Note h) = refl
journal_table t Spent = refl

pub note_table : (t : TableId) (v : View) → (note_value t v).table ≡ t
note_table t (Journal l ts hs) = refl
note_table t (Note h) = refl
note_table t Spent = refl

-- the table of a seat whose value is known
pub of_journal : (t u : TableId) (v : View) (j : JournalValue) → journal_value t v ≡ j → j.table ≡ u → t ≡ u
of_journal t u v j is at = sym (journal_table t v) ∙ ap (λ (x : JournalValue). x.table) is ∙ at

pub of_note : (t u : TableId) (v : View) (n : NoteValue) → note_value t v ≡ n → n.table ≡ u → t ≡ u
of_note t u v n is at = sym (note_table t v) ∙ ap (λ (x : NoteValue). x.table) is ∙ at

-- a seat that holds a cell keeps what a note's type says
pub note_made : (t : TableId) (h : CellView) (me : Me (Unit {0}) View) → me.0 ≡ Note h → me.1 ≡ [] → me ≡ (note_view (note_value t me.0), [])
note_made t h me v e =
    let P : View → Type 0 = λ x. x ≡ note_view (note_value t x) in
    let s : me.0 ≡ note_view (note_value t me.0) = subst P (sym v) refl in
    (λ i. (s i, e i))

-- the journal's table has its word
pub has_word : (words : ℕ) → words ≡ 1 → 0 < words
has_word words one = omega (arith, one)
