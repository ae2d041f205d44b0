-- Values that have changed since the meeting, step by step.
use Rattle.std.proofs.Common.{◌≡◌, ℕ, [], refl, sym, ap, subst, ◌∙◌, List, Option}
use Rattle.k_types.specs.declared.names.CellPhase.TheVariants.{Idle}
use Rattle.k_types.specs.declared.names.Name.{Name}
use Rattle.k_types.specs.declared.op.Op.{Op}
use Rattle.k_types.specs.Agree.{BookValue, CellValue, book_shown_by}
use Rattle.k_space.specs.Objects.{BodyValue}
use Rattle.k_book.specs.Books.{BookRecord}
use Rattle.k_book.specs.k_laws.BookChanges.{owner_in}
use Rattle.k_heap.specs.Heaps.{HeapRecord}
use Rattle.k_agree.specs.Moves.{KeepsOwners}
use Rattle.k_commit.specs.Changed.{ChangesValues, HasSetRegister, bodies_after}
use Rattle.k_commit.specs.Met.{Before, HaveMet}

module _ (before : Before) (op : Op) where
  -- nothing has changed yet
  pub values_kept : (c : HeapRecord) (b : BookRecord) → HaveMet before → c ≡ before.cell → b ≡ before.book → bodies_after op before.cell.bodies ≡ before.cell.bodies → ChangesValues before c b op
  values_kept c b m cell_is book_is bodies =
      subst (λ (w : HeapRecord). ChangesValues before w b op) (sym cell_is)
      (subst (λ (k : BookRecord). ChangesValues before before.cell k op) (sym book_is)
      (record {
        cell_is = ap (λ (left : List BodyValue). record before.cell { bodies = left }) (sym bodies);
        book_is = refl;
        settled = m.heap.settled;
        idle = m.heap.idle;
        owners = record { homes = refl; owners = refl };
      }))

  -- more has changed: the values alone
  pub values_changed : (c w : HeapRecord) (b k : BookRecord) → ChangesValues before c b op → w ≡ record c { value = w.value } → k ≡ record b { value = k.value } →
      w.value.tail ≡ [] → w.value.collection ≡ Idle → KeepsOwners before.trace b.value k.value → ChangesValues before w k op
  values_changed c w b k v cell_is book_is tail idle owners = record {
    cell_is = cell_is ∙ ap (λ (x : HeapRecord). record x { value = w.value }) v.cell_is;
    book_is = book_is ∙ ap (λ (x : BookRecord). record x { value = k.value }) v.book_is;
    settled = tail;
    idle = idle;
    owners = record { homes = owners.homes ∙ v.owners.homes; owners = owners.owners ∙ v.owners.owners };
  }

  -- a register is set with its pin
  pub values_set : (c w : HeapRecord) (b k : BookRecord) (r : ℕ) (value : Option Name) → ChangesValues before c b op → HasSetRegister before c w b k r value → ChangesValues before w k op
  values_set c w b k r value v s =
      values_changed c w b k v
      (s.cell_is ∙ ap (λ (y : CellValue). record c { value = y }) (sym (ap (λ (x : HeapRecord). x.value) s.cell_is)))
      (s.book_is ∙ ap (λ (y : BookValue). record b { value = y }) (sym (ap (λ (x : BookRecord). x.value) s.book_is)))
      (ap (λ (x : HeapRecord). x.value.tail) s.cell_is ∙ v.settled)
      (ap (λ (x : HeapRecord). x.value.collection) s.cell_is ∙ v.idle)
      (record { homes = ap (λ (x : BookRecord). x.value.homes) s.book_is; owners = ap (λ (x : BookRecord). owner_in before.trace (book_shown_by x.value)) s.book_is })
