-- What has been made gray of a cell.
use Rattle.std.proofs.Common.{◌≡◌, ℕ, ◌||◌, ◌&&◌, Bool, true, false, refl, sym, ap, ap₂, ◌∙◌, subst, List, [], ◌∷◌, ◌++◌}
use Rattle.std.proofs.lemmas.List.Folds.{list_any-append}
use Rattle.k_mark.specs.k_types.declared.names.Name.{Name}
use Rattle.k_mark.specs.k_types.declared.names.CellPhase.{CellPhase}
use Rattle.k_mark.specs.k_types.declared.names.CellPhase.TheVariants.{Idle, Begun, Marked}
use Rattle.k_mark.specs.k_types.Agree.{CellValue}
use Rattle.k_mark.specs.k_types.Names.{name_among, name_eq}
use Rattle.k_mark.specs.k_types.State.{Object, has}
use Rattle.k_mark.proofs.Charges.{or_none}
use Rattle.k_agree.proofs.NameTests.{name_eq-true}
use Rattle.k_mark.specs.k_space.Areas.{AreaValue, black_at, grayed, unmarked}
use Rattle.k_mark.specs.k_exit.Exits.{ExitRow}
use Rattle.k_agree.specs.Marking.{begun}
use Rattle.k_cell.specs.Changes.{HasBegun, HasGrayed, HasRoot}
use Rattle.k_cell.specs.Holdings.{AreHoldings, cell_seen, gray_in}
use Rattle.k_cell.specs.Rooted.{grayed_all}
use Rattle.k_cell.proofs.Areas.{alike}
use Rattle.k_cell.proofs.Marks.{kept_alike, rooted, rooted_kept}
use Rattle.k_cell.proofs.Rooted.{all_same, black_all}
use Rattle.k_cell.proofs.Seen.{same_cell}

pub grays_none : (v : CellValue) → HasBegun v → HasGrayed (λ n. false) v v
grays_none v begins = record { rest = begins; gray = λ n. sym (or_none (name_among n v.gray)) }

or_and_more : (g f h e : Bool) → ((g || (f && h)) || (e && h)) ≡ (g || ((f || e) && h))
or_and_more true f h e = refl
or_and_more false true true e = refl
or_and_more false true false true = refl
or_and_more false true false false = refl
or_and_more false false h e = refl

still_begun : (v w x : CellValue) → w ≡ begun w.gray v → x ≡ begun x.gray w → x ≡ begun x.gray v
still_begun v w x first second = second ∙ ap (λ (u : CellValue). begun x.gray u) first

-- what was made gray first, and then
pub grays_both : (f g : Name → Bool) (v w x : CellValue) → HasGrayed f v w → HasGrayed g w x → HasGrayed (λ n. f n || g n) v x
grays_both f g v w x first second = record {
  rest = still_begun v w x first.rest second.rest;
  gray = λ n.
      second.gray n
      ∙ ap₂ (λ a (os : List Object). a || (g n && has os n)) (first.gray n) (ap (λ (u : CellValue). u.objects) first.rest)
      ∙ or_and_more (name_among n v.gray) (f n) (has v.objects n) (g n);
}

pub grays_root : (t : Name) (w x : CellValue) → HasRoot w x t → HasGrayed (name_eq t) w x
grays_root t w x root = record { rest = root.rest; gray = λ n. root.gray n ∙ ap (λ b. name_among n w.gray || b) (same_object n (name_eq t n) refl) }
  where
    same_object : (n : Name) (b : Bool) → name_eq t n ≡ b → (b && has w.objects t) ≡ (b && has w.objects n)
    same_object n true same = ap (has w.objects) (name_eq-true t n same)
    same_object n false other = refl

pub grays_one : (f : Name → Bool) (t : Name) (v w x : CellValue) → HasGrayed f v w → HasRoot w x t → HasGrayed (λ n. f n || name_eq t n) v x
grays_one f t v w x first root = grays_both f (name_eq t) v w x first (grays_root t w x root)

pub grays_same : (f g : Name → Bool) (v w : CellValue) → ((n : Name) → f n ≡ g n) → HasGrayed f v w → HasGrayed g v w
grays_same f g v w same grayed = record {
  rest = grayed.rest;
  gray = λ n. grayed.gray n ∙ ap (λ t. name_among n v.gray || (t && has v.objects n)) (same n);
}

-- roots that were taken out, and put back with others
pub grays_more : (f : Name → Bool) (v w x : CellValue) (taken put : List Name) → w ≡ begun w.gray v → HasGrayed (λ n. name_among n taken) w v → HasGrayed (λ n. name_among n put) w x → ((n : Name) → name_among n put ≡ (name_among n taken || f n)) → HasGrayed f v x
grays_more f v w x taken put out was now more = record {
  rest = still_begun v w x out now.rest;
  gray = λ n.
      now.gray n
      ∙ ap (λ b. name_among n w.gray || (b && has w.objects n)) (more n)
      ∙ sym (or_and_more (name_among n w.gray) (name_among n taken) (has w.objects n) (f n))
      ∙ ap₂ (λ a (os : List Object). a || (f n && has os n)) (sym (was.gray n)) (ap (λ (u : CellValue). u.objects) out);
}

pub among_more : (n : Name) (xs ys : List Name) → name_among n (xs ++ ys) ≡ (name_among n xs || name_among n ys)
among_more n xs ys = list_any-append (λ x. name_eq x n) xs ys

-- a row of roots
all_begun : (bound bytes : ℕ) (a : AreaValue) (items : List ExitRow) (ns : List Name) → AreHoldings bound bytes Begun a items → HasGrayed (λ n. name_among n ns) (cell_seen bound Begun a items) (cell_seen bound Begun (grayed_all a ns) items)
all_begun bound bytes a items [] kept = grays_none (cell_seen bound Begun a items) refl
all_begun bound bytes a items (n ∷ ns) kept =
    grays_both (name_eq n) (λ m. name_among m ns) (cell_seen bound Begun a items) (cell_seen bound Begun (grayed a n) items) (cell_seen bound Begun (grayed_all (grayed a n) ns) items)
    (grays_root n (cell_seen bound Begun a items) (cell_seen bound Begun (grayed a n) items) (rooted bound bytes Begun a (grayed a n) items n kept refl refl))
    (all_begun bound bytes (grayed a n) items ns (rooted_kept bound bytes Begun a (grayed a n) items n kept refl refl))

pub all_rooted : (bound bytes : ℕ) (phase : CellPhase) (a new : AreaValue) (items : List ExitRow) (ns : List Name) → AreHoldings bound bytes phase a items → phase ≡ Begun → new ≡ grayed_all a ns →
    HasGrayed (λ n. name_among n ns) (cell_seen bound phase a items) (cell_seen bound phase new items)
all_rooted bound bytes Idle a new items ns kept begun is = absurd (cc)
all_rooted bound bytes Begun a new items ns kept begun is = subst (λ (x : AreaValue). HasGrayed (λ n. name_among n ns) (cell_seen bound Begun a items) (cell_seen bound Begun x items)) (sym is) (all_begun bound bytes a items ns kept)
all_rooted bound bytes Marked a new items ns kept begun is = absurd (cc)

-- areas that differ in roots alone
alike_begun : (bound bytes : ℕ) (phase : CellPhase) (a new : AreaValue) (items : List ExitRow) → AreHoldings bound bytes phase a items → phase ≡ Begun → unmarked new ≡ unmarked a → ((n : Name) → black_at new n ≡ black_at a n) → AreHoldings bound bytes phase new items
alike_begun bound bytes Idle a new items kept begun same black = absurd (cc)
alike_begun bound bytes Begun a new items kept begun same black = kept_alike bound bytes Begun Begun a new items items (alike a new same bound) kept ((λ n. black n ∙ kept.marks.0 n), kept.marks.1)
alike_begun bound bytes Marked a new items kept begun same black = absurd (cc)

pub put_kept : (bound bytes : ℕ) (phase : CellPhase) (a new : AreaValue) (items : List ExitRow) (ns : List Name) → AreHoldings bound bytes phase a items → phase ≡ Begun → new ≡ grayed_all a ns → AreHoldings bound bytes phase new items
put_kept bound bytes phase a new items ns kept begun is =
    alike_begun bound bytes phase a new items kept begun (ap unmarked is ∙ all_same a ns) (λ n. ap (λ (x : AreaValue). black_at x n) is ∙ black_all a ns n)

pub taken_kept : (bound bytes : ℕ) (phase : CellPhase) (a new : AreaValue) (items : List ExitRow) (ns : List Name) → AreHoldings bound bytes phase a items → phase ≡ Begun → a ≡ grayed_all new ns → AreHoldings bound bytes phase new items
taken_kept bound bytes phase a new items ns kept begun is =
    alike_begun bound bytes phase a new items kept begun (sym (ap unmarked is ∙ all_same new ns)) (λ n. sym (ap (λ (x : AreaValue). black_at x n) is ∙ black_all new ns n))

pub taken_begun : (bound : ℕ) (phase : CellPhase) (a new : AreaValue) (items : List ExitRow) → phase ≡ Begun → unmarked new ≡ unmarked a → cell_seen bound phase new items ≡ begun (gray_in phase bound new) (cell_seen bound phase a items)
taken_begun bound Idle a new items begun same = absurd (cc)
taken_begun bound Begun a new items begun same = let like = alike a new same bound in same_cell Begun like.objects like.made refl refl refl refl
taken_begun bound Marked a new items begun same = absurd (cc)
