-- What operations that touch one cell beside the process's own give of the parts of both and of the book.
use Rattle.std.proofs.Common.{◌≡◌, ℕ, refl, sym, ap, ap₂, ◌∙◌, Bool, [], ◌∷◌, cond, Option, Some, None, IsFalse, true, false}
use Rattle.k_types.specs.declared.event.Event.TheVariants.{Done}
use Rattle.k_types.specs.declared.event.Fault.{Fault}
use Rattle.k_types.specs.declared.event.Reply.TheVariants.{Done as DoneReply, Loaded, Refused, Value}
use Rattle.k_types.specs.declared.names.Heap.{Heap}
use Rattle.k_types.specs.declared.names.Heap.TheVariants.{User}
use Rattle.k_types.specs.declared.names.Name.{Name}
use Rattle.k_types.specs.declared.names.Pid.{Pid}
use Rattle.k_types.specs.declared.names.Reg.{Reg}
use Rattle.k_types.specs.declared.op.Op.{Op}
use Rattle.k_types.specs.declared.op.Op.TheVariants.{Get, Load, Put, Store}
use Rattle.k_types.specs.Cells.{BookPart, Cell, CellPart}
use Rattle.k_types.specs.Names.{heap_eq}
use Rattle.k_types.specs.Owners.{user}
use Rattle.k_types.specs.Replies.{at_base, first_fault, number_in, reference, refused_or}
use Rattle.k_types.specs.State.{Holds, Refers}
use Rattle.k_types.specs.Trace.{Trace}
use Rattle.k_tie.proofs.NameTests.{heap_eq_refl, heap_eq_sym}
use Rattle.k_laws.specs.PartUpdates.{held_in, with_done, with_register, with_written}
use Rattle.k_laws.specs.BookChanges.{owner_in, with_pin_moved}
use Rattle.k_laws.specs.Answers.{answer_in, faults_in, field_in, load_faults_in, number_faults_in, number_from_in, reference_from_in, reply_in, store_faults_in}
use Rattle.k_laws.specs.BookAfter.{book_after, book_operated, book_stored}
use Rattle.k_laws.specs.CellAfter.{at_cell, cell_after, cells_operated, cells_put, cells_stored, register_in, with_exit_for}
use Rattle.k_laws.specs.Touches.{base_cell_in, other_cells_in}
use Rattle.k_agree.specs.Moves.{GivesBoth}
use Rattle.k_agree.specs.Shown.{part_alone, two_parts}

module _ (trace : Trace) (b : BookPart) (v u : CellPart) (pid : Pid) (cell : Cell) (apart : IsFalse (heap_eq (User pid) cell)) where
  abbrev both : Cell → CellPart
  both = two_parts (User pid) v u

  own : heap_eq (User pid) (User pid) ≡ true
  own = heap_eq_refl (User pid)

  swapped : heap_eq cell (User pid) ≡ false
  swapped = heap_eq_sym cell (User pid) ∙ apart

  there : heap_eq cell cell ≡ true
  there = heap_eq_refl cell

  own_part : both (user pid.0) ≡ v
  own_part = ap (λ t. cond t v u) own

  second_part : both cell ≡ u
  second_part = ap (λ t. cond t v u) apart

  pub held_own : (r : ℕ) → register_in both pid.0 r ≡ held_in v.process r
  held_own r = ap (λ (c : CellPart). held_in c.process r) own_part

  -- the part of a cell, by whether it is the process's own and whether it is the other, once the other is changed by the one
  -- function and the own cell by the second, and counts one operation more
  abbrev changed : (CellPart → CellPart) → (CellPart → CellPart) → Bool → Bool → CellPart
  changed second first mine its =
      cond mine
      (with_done (cond mine (first (cond its (second (cond mine v u)) (cond mine v u))) (cond its (second (cond mine v u)) (cond mine v u))))
      (cond mine (first (cond its (second (cond mine v u)) (cond mine v u))) (cond its (second (cond mine v u)) (cond mine v u)))

  pub own_changed : (second first : CellPart → CellPart) →
      with_done (first v) ≡ at_cell (user pid.0) with_done (at_cell (user pid.0) first (at_cell cell second both)) (User pid)
  own_changed second first = ap₂ (changed second first) (sym own) (sym swapped)

  pub second_changed : (second first : CellPart → CellPart) →
      second u ≡ at_cell (user pid.0) with_done (at_cell (user pid.0) first (at_cell cell second both)) cell
  second_changed second first = ap₂ (changed second first) (sym apart) (sym there)

  -- the same where the own cell counts alone
  abbrev counted : (CellPart → CellPart) → (CellPart → CellPart) → Bool → Bool → CellPart
  counted first then mine its =
      cond mine
      (with_done (cond its (then (cond its (first (cond mine v u)) (cond mine v u))) (cond its (first (cond mine v u)) (cond mine v u))))
      (cond its (then (cond its (first (cond mine v u)) (cond mine v u))) (cond its (first (cond mine v u)) (cond mine v u)))

  own_counted_twice : (first then : CellPart → CellPart) →
      with_done v ≡ at_cell (user pid.0) with_done (at_cell cell then (at_cell cell first both)) (User pid)
  own_counted_twice first then = ap₂ (counted first then) (sym own) (sym swapped)

  second_counted_twice : (first then : CellPart → CellPart) →
      then (first u) ≡ at_cell (user pid.0) with_done (at_cell cell then (at_cell cell first both)) cell
  second_counted_twice first then = ap₂ (counted first then) (sym apart) (sym there)

  pub own_counted : (second : CellPart → CellPart) → with_done v ≡ at_cell (user pid.0) with_done (at_cell cell second both) (User pid)
  own_counted second =
      ap₂ (λ (mine its : Bool). cond mine (with_done (cond its (second (cond mine v u)) (cond mine v u))) (cond its (second (cond mine v u)) (cond mine v u))) (sym own) (sym swapped)

  pub second_counted : (second : CellPart → CellPart) → second u ≡ at_cell (user pid.0) with_done (at_cell cell second both) cell
  second_counted second =
      ap₂ (λ (mine its : Bool). cond mine (with_done (cond its (second (cond mine v u)) (cond mine v u))) (cond its (second (cond mine v u)) (cond mine v u))) (sym apart) (sym there)

  pub own_set : (first : CellPart → CellPart) → with_done (first v) ≡ at_cell (user pid.0) with_done (at_cell (user pid.0) first both) (User pid)
  own_set first = ap (λ mine. cond mine (with_done (cond mine (first (cond mine v u)) (cond mine v u))) (cond mine (first (cond mine v u)) (cond mine v u))) (sym own)

  pub second_kept : (first : CellPart → CellPart) → u ≡ at_cell (user pid.0) with_done (at_cell (user pid.0) first both) cell
  second_kept first = ap (λ mine. cond mine (with_done (cond mine (first (cond mine v u)) (cond mine v u))) (cond mine (first (cond mine v u)) (cond mine v u))) (sym apart)

  pub not_refused_beside : (op : Op) → first_fault (faults_in trace b both pid.0 op) ≡ None → answer_in trace b both pid.0 op ≡ reply_in trace b both pid.0 op
  unfolding reply_in
  not_refused_beside op fine = ap (λ (fault : Option Fault). refused_or fault (answer_in trace b both pid.0 op)) (sym fine)

  pub refused_beside : (op : Op) (fault : Fault) → other_cells_in trace b v pid.0 op ≡ cell ∷ [] → first_fault (faults_in trace b both pid.0 op) ≡ Some fault →
      GivesBoth trace pid op (Refused fault) cell v (with_done v) u u b b
  unfolding reply_in cell_after book_after
  refused_beside op fault touched is = record {
    apart = apart;
    touched = touched;
    answered = ap (λ (f : Option Fault). refused_or f (answer_in trace b both pid.0 op)) (sym is);
    own = ap (λ t. cond t (with_done (cond t v u)) (cond t v u)) (sym own);
    second = ap (λ t. cond t (with_done (cond t v u)) (cond t v u)) (sym apart);
    book = refl;
  }

  -- an access to a field of an object of the second cell
  module _ (base : Reg) (i : ℕ) (x : Name) (at_x : held_in v.process base.0 ≡ Some x) (its : owner_in trace b x.seg.0 ≡ cell) (beside : base_cell_in b pid.0 cell ≡ cell ∷ []) where
    held_x : register_in both pid.0 base.0 ≡ Some x
    held_x = held_own base.0 ∙ at_x

    accessed : base_cell_in b pid.0 (owner_in trace b x.seg.0) ≡ cell ∷ []
    accessed = ap (base_cell_in b pid.0) its ∙ beside

    module _ (value : Reg) (y : Option Name) (at_y : held_in v.process value.0 ≡ y) where
      held_y : register_in both pid.0 value.0 ≡ y
      held_y = held_own value.0 ∙ at_y

      store_touches : other_cells_in trace b v pid.0 (Store base i value) ≡ cell ∷ []
      unfolding other_cells_in
      store_touches = rw (at_x) accessed

      store_faults : faults_in trace b both pid.0 (Store base i value) ≡ store_faults_in trace b cell u pid.0 i y x
      unfolding faults_in
      store_faults =
          ap₂ (λ (bx vy : Option Name). at_base bx (λ x. store_faults_in trace b (owner_in trace b x.seg.0) (both (owner_in trace b x.seg.0)) pid.0 i vy x)) held_x held_y
          ∙ ap (λ (h : Heap). store_faults_in trace b h (both h) pid.0 i y x) its
          ∙ ap (λ (c : CellPart). store_faults_in trace b cell c pid.0 i y x) second_part

      pub store_refused_beside : (fault : Fault) → first_fault (store_faults_in trace b cell u pid.0 i y x) ≡ Some fault →
          GivesBoth trace pid (Store base i value) (Refused fault) cell v (with_done v) u u b b
      store_refused_beside fault is = refused_beside (Store base i value) fault store_touches (ap first_fault store_faults ∙ is)

      store_answer : first_fault (store_faults_in trace b cell u pid.0 i y x) ≡ None → DoneReply ≡ reply_in trace b both pid.0 (Store base i value)
      unfolding answer_in
      store_answer fine = not_refused_beside (Store base i value) (ap first_fault store_faults ∙ fine)

      stored_parts : (c : Cell) → at_cell (user pid.0) with_done (at_cell cell (with_written x i (Refers y)) (at_cell cell (with_exit_for (owner_in trace b) x y) both)) c
          ≡ cell_after trace b both (Done pid (Store base i value) DoneReply) c
      unfolding cell_after cells_operated
      stored_parts c =
          ap (λ (h : Heap). at_cell (user pid.0) with_done (at_cell h (with_written x i (Refers y)) (at_cell h (with_exit_for (owner_in trace b) x y) both)) c) (sym its)
          ∙ ap₂ (λ (bx vy : Option Name). at_cell (user pid.0) with_done (cells_stored (owner_in trace b) bx i vy both) c) (sym held_x) (sym held_y)

      store_book : book_stored (owner_in trace b) (Some x) y both b ≡ book_after trace b both (Done pid (Store base i value) DoneReply)
      unfolding book_after book_operated
      store_book = ap₂ (λ (bx vy : Option Name). book_stored (owner_in trace b) bx vy both b) (sym held_x) (sym held_y)

      read_second : (value : Option Name) → book_stored (owner_in trace b) (Some x) value (part_alone u) b ≡ book_stored (owner_in trace b) (Some x) value both b
      read_second None = refl
      read_second (Some z) = ap (λ (c : CellPart). book_stored (owner_in trace b) (Some x) (Some z) (part_alone c) b) (sym (ap both its ∙ second_part))

      pub stored_beside : first_fault (store_faults_in trace b cell u pid.0 i y x) ≡ None → GivesBoth trace pid (Store base i value) DoneReply cell
          v (with_done v) u (with_written x i (Refers y) (with_exit_for (owner_in trace b) x y u))
          b (book_stored (owner_in trace b) (Some x) y (part_alone u) b)
      stored_beside fine = record {
        apart = apart;
        touched = store_touches;
        answered = store_answer fine;
        own = own_counted_twice (with_exit_for (owner_in trace b) x y) (with_written x i (Refers y)) ∙ stored_parts (User pid);
        second = second_counted_twice (with_exit_for (owner_in trace b) x y) (with_written x i (Refers y)) ∙ stored_parts cell;
        book = read_second y ∙ store_book;
      }

    module _ (r : Reg) where
      load_touches : other_cells_in trace b v pid.0 (Load r base i) ≡ cell ∷ []
      unfolding other_cells_in
      load_touches = rw (at_x) accessed

      load_faults : faults_in trace b both pid.0 (Load r base i) ≡ load_faults_in b cell u pid.0 i x
      unfolding faults_in
      load_faults =
          ap (λ (bx : Option Name). at_base bx (λ x. load_faults_in b (owner_in trace b x.seg.0) (both (owner_in trace b x.seg.0)) pid.0 i x)) held_x
          ∙ ap (λ (h : Heap). load_faults_in b h (both h) pid.0 i x) its
          ∙ ap (λ (c : CellPart). load_faults_in b cell c pid.0 i x) second_part

      pub load_refused_beside : (fault : Fault) → first_fault (load_faults_in b cell u pid.0 i x) ≡ Some fault →
          GivesBoth trace pid (Load r base i) (Refused fault) cell v (with_done v) u u b b
      load_refused_beside fault is = refused_beside (Load r base i) fault load_touches (ap first_fault load_faults ∙ is)

      found : reference (field_in u x i) ≡ reference_from_in trace b both (register_in both pid.0 base.0) i
      found =
          ap (λ (c : CellPart). reference (field_in c x i)) (sym (ap both its ∙ second_part))
          ∙ ap (λ (bx : Option Name). reference_from_in trace b both bx i) (sym held_x)

      load_answer : first_fault (load_faults_in b cell u pid.0 i x) ≡ None → Loaded (reference (field_in u x i)) ≡ reply_in trace b both pid.0 (Load r base i)
      unfolding answer_in
      load_answer fine = ap Loaded found ∙ not_refused_beside (Load r base i) (ap first_fault load_faults ∙ fine)

      pub loaded_beside : first_fault (load_faults_in b cell u pid.0 i x) ≡ None → GivesBoth trace pid (Load r base i) (Loaded (reference (field_in u x i))) cell
          v (with_done (with_register r.0 (reference (field_in u x i)) v)) u u
          b (with_pin_moved (owner_in trace b) pid.0 (held_in v.process r.0) (reference (field_in u x i)) b)
      unfolding cell_after cells_operated book_after book_operated
      loaded_beside fine = record {
        apart = apart;
        touched = load_touches;
        answered = load_answer fine;
        own = own_set (with_register r.0 (reference (field_in u x i)));
        second = second_kept (with_register r.0 (reference (field_in u x i)));
        book = ap (λ (held : Option Name). with_pin_moved (owner_in trace b) pid.0 held (reference (field_in u x i)) b) (sym (held_own r.0));
      }

    number_faults : at_base (register_in both pid.0 base.0) (λ x. number_faults_in b (owner_in trace b x.seg.0) (both (owner_in trace b x.seg.0)) pid.0 i x) ≡ number_faults_in b cell u pid.0 i x
    number_faults =
        ap (λ (bx : Option Name). at_base bx (λ x. number_faults_in b (owner_in trace b x.seg.0) (both (owner_in trace b x.seg.0)) pid.0 i x)) held_x
        ∙ ap (λ (h : Heap). number_faults_in b h (both h) pid.0 i x) its
        ∙ ap (λ (c : CellPart). number_faults_in b cell c pid.0 i x) second_part

    module _ (number : ℕ) where
      put_touches : other_cells_in trace b v pid.0 (Put base i number) ≡ cell ∷ []
      unfolding other_cells_in
      put_touches = rw (at_x) accessed

      put_faults : faults_in trace b both pid.0 (Put base i number) ≡ number_faults_in b cell u pid.0 i x
      unfolding faults_in
      put_faults = number_faults

      pub put_refused_beside : (fault : Fault) → first_fault (number_faults_in b cell u pid.0 i x) ≡ Some fault →
          GivesBoth trace pid (Put base i number) (Refused fault) cell v (with_done v) u u b b
      put_refused_beside fault is = refused_beside (Put base i number) fault put_touches (ap first_fault put_faults ∙ is)

      put_answer : first_fault (number_faults_in b cell u pid.0 i x) ≡ None → DoneReply ≡ reply_in trace b both pid.0 (Put base i number)
      unfolding answer_in
      put_answer fine = not_refused_beside (Put base i number) (ap first_fault put_faults ∙ fine)

      put_parts : (c : Cell) → at_cell (user pid.0) with_done (at_cell cell (with_written x i (Holds number)) both) c ≡ cell_after trace b both (Done pid (Put base i number) DoneReply) c
      unfolding cell_after cells_operated
      put_parts c =
          ap (λ (h : Heap). at_cell (user pid.0) with_done (at_cell h (with_written x i (Holds number)) both) c) (sym its)
          ∙ ap (λ (bx : Option Name). at_cell (user pid.0) with_done (cells_put (owner_in trace b) bx i number both) c) (sym held_x)

      pub put_beside : first_fault (number_faults_in b cell u pid.0 i x) ≡ None → GivesBoth trace pid (Put base i number) DoneReply cell
          v (with_done v) u (with_written x i (Holds number) u) b b
      unfolding book_after book_operated
      put_beside fine = record {
        apart = apart;
        touched = put_touches;
        answered = put_answer fine;
        own = own_counted (with_written x i (Holds number)) ∙ put_parts (User pid);
        second = second_counted (with_written x i (Holds number)) ∙ put_parts cell;
        book = refl;
      }

    get_touches : other_cells_in trace b v pid.0 (Get base i) ≡ cell ∷ []
    unfolding other_cells_in
    get_touches = rw (at_x) accessed

    get_faults : faults_in trace b both pid.0 (Get base i) ≡ number_faults_in b cell u pid.0 i x
    unfolding faults_in
    get_faults = number_faults

    pub get_refused_beside : (fault : Fault) → first_fault (number_faults_in b cell u pid.0 i x) ≡ Some fault →
        GivesBoth trace pid (Get base i) (Refused fault) cell v (with_done v) u u b b
    get_refused_beside fault is = refused_beside (Get base i) fault get_touches (ap first_fault get_faults ∙ is)

    got : number_in (field_in u x i) ≡ number_from_in trace b both (register_in both pid.0 base.0) i
    got =
        ap (λ (c : CellPart). number_in (field_in c x i)) (sym (ap both its ∙ second_part))
        ∙ ap (λ (bx : Option Name). number_from_in trace b both bx i) (sym held_x)

    get_answer : first_fault (number_faults_in b cell u pid.0 i x) ≡ None → Value (number_in (field_in u x i)) ≡ reply_in trace b both pid.0 (Get base i)
    unfolding answer_in
    get_answer fine = ap Value got ∙ not_refused_beside (Get base i) (ap first_fault get_faults ∙ fine)

    pub get_beside : first_fault (number_faults_in b cell u pid.0 i x) ≡ None → GivesBoth trace pid (Get base i) (Value (number_in (field_in u x i))) cell
        v (with_done v) u u b b
    unfolding cell_after cells_operated book_after book_operated
    get_beside fine = record {
      apart = apart;
      touched = get_touches;
      answered = get_answer fine;
      own = ap (λ t. cond t (with_done (cond t v u)) (cond t v u)) (sym own);
      second = ap (λ t. cond t (with_done (cond t v u)) (cond t v u)) (sym apart);
      book = refl;
    }
