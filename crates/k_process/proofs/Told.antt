-- Local operations as the machine has them.
use Rattle.std.proofs.Common.{◌≡◌, ℕ, ◌+◌, ◌==◌, ◌&&◌, ◌||◌, not, nat_le, Bool, true, false, cond, refl, sym, ap, ap₂, ◌∙◌, subst, [], ◌∷◌, Option, Some, None, is_some, eq-eqb, eqb-true}
use Rattle.std.proofs.lemmas.Bool.{false≢true}
use Rattle.k_types.specs.declared.event.Event.TheVariants.{Done as DoneEvent}
use Rattle.k_types.specs.declared.event.Fault.TheVariants.{Null, Foreign, NoField, WrongKind, Frozen, Segv}
use Rattle.k_types.specs.declared.event.Reply.{Reply}
use Rattle.k_types.specs.declared.event.Reply.TheVariants.{Done, Made, Loaded, Value, Refused}
use Rattle.k_types.specs.declared.names.Name.{Name}
use Rattle.k_types.specs.declared.names.Pid.{Pid}
use Rattle.k_types.specs.declared.op.Op.{Op}
use Rattle.k_types.specs.declared.op.Op.TheVariants.{Store, Load, Move, Clear, Put, Get}
use Rattle.k_types.specs.Agree.{CellValue}
use Rattle.k_types.specs.Barrier.{legal_store}
use Rattle.k_types.specs.Cells.{BookPart, Cell, CellPart}
use Rattle.k_types.specs.Effects.{step}
use Rattle.k_types.specs.Local.{is_own}
use Rattle.k_types.specs.Names.{heap_eq, kind_of}
use Rattle.k_types.specs.Owners.{user}
use Rattle.k_types.specs.Replies.{at_base, fault_where, first_fault, is_foreign, is_ref, number_in, reference, refused_or}
use Rattle.k_types.specs.State.{Holds, Refers}
use Rattle.k_types.specs.Trace.{Trace}
use Rattle.k_types.proofs.NameTests.{heap_eq_refl}
use Rattle.k_laws.proofs.FrameLaws.{local_operations_go_by_their_cell-book}
use Rattle.k_laws.specs.PartUpdates.{held_in, with_done, with_register, with_written}
use Rattle.k_laws.specs.BookChanges.{owner_in}
use Rattle.k_laws.specs.CellChanges.{with_exit_to}
use Rattle.k_agree.specs.Marking.{idle_part}
use Rattle.k_laws.specs.Answers.{access_faults_in, answer_in, faults_in, field_in, load_faults_in, number_faults_in, number_from_in, passes_barrier_in, reference_from_in, reply_in, store_faults_in}
use Rattle.k_laws.specs.CellAfter.{at_cell, cell_after, cells_operated, cells_put, cells_stored, cells_with_register, reference_given, register_in, unless_refused, with_exit_for}
use Rattle.k_laws.proofs.SquaresLaws.{local_operations_are_told}
use Rattle.k_laws.specs.Locals.{is_local_in, is_local_load_in, is_local_store_in}
use Rattle.k_commit.specs.k_heap.Looks.{field_among, field_count_among}
use Rattle.k_commit.specs.k_heap.Heaps.{with_register_in}
use Rattle.k_process.specs.Locals.{IsMachines, LeavesTheBook, ShowOwn, after_local, field_answer, get_answer, load_answer, local_answer, local_change, loaded_through, put_answer, store_answer, written_through}

-- whether an operation is local
field_some : (own past of_kind goes_on : Bool) (answer : Option Reply) → is_some answer ≡ goes_on →
    is_some (cond own (cond past (Some (Refused NoField)) (cond of_kind answer (Some (Refused WrongKind)))) None) ≡ (own && (past || not of_kind || goes_on))
field_some false past of_kind goes_on answer same = refl
field_some true true of_kind goes_on answer same = refl
field_some true false false goes_on answer same = refl
field_some true false true goes_on answer same = same

field_always : (own past of_kind : Bool) (answer : Reply) → is_some (cond own (cond past (Some (Refused NoField)) (cond of_kind (Some answer) (Some (Refused WrongKind)))) None) ≡ own
field_always false past of_kind answer = refl
field_always true true of_kind answer = refl
field_always true false false answer = refl
field_always true false true answer = refl

is_some_if : (b : Bool) (answer : Reply) → is_some (cond b (Some answer) None) ≡ b
is_some_if true answer = refl
is_some_if false answer = refl

store_told : (v : CellValue) (p : ℕ) (base : Option Name) (i : ℕ) (value : Option Name) → is_some (store_answer v p base i value) ≡ is_local_store_in (idle_part v) p base i value
store_told v p None i value = refl
store_told v p (Some x) i value =
    field_some (x.seg.0 == p + 1) (nat_le (field_count_among v.objects x) i) (is_ref (field_among v.objects x i)) (is_own p value) (cond (is_own p value) (Some Done) None) (is_some_if (is_own p value) Done)

load_told : (v : CellValue) (p : ℕ) (base : Option Name) (i : ℕ) (old : Option Name) → is_some (load_answer v p base i old) ≡ is_local_load_in (idle_part v) p base i old
load_told v p None i old = refl
load_told v p (Some x) i old =
    field_some (x.seg.0 == p + 1) (nat_le (field_count_among v.objects x) i) (is_ref (field_among v.objects x i)) (is_own p (reference (field_among v.objects x i)) && is_own p old)
    (cond (is_own p (reference (field_among v.objects x i)) && is_own p old) (Some (Loaded (reference (field_among v.objects x i)))) None) (is_some_if (is_own p (reference (field_among v.objects x i)) && is_own p old) (Loaded (reference (field_among v.objects x i))))

put_told : (v : CellValue) (p : ℕ) (base : Option Name) (i : ℕ) → is_some (put_answer v p base i) ≡ is_own p base
put_told v p None i = refl
put_told v p (Some x) i = field_always (x.seg.0 == p + 1) (nat_le (field_count_among v.objects x) i) (not (is_ref (field_among v.objects x i))) Done

get_told : (v : CellValue) (p : ℕ) (base : Option Name) (i : ℕ) → is_some (get_answer v p base i) ≡ is_own p base
get_told v p None i = refl
get_told v p (Some x) i = field_always (x.seg.0 == p + 1) (nat_le (field_count_among v.objects x) i) (not (is_ref (field_among v.objects x i))) (Value (number_in (field_among v.objects x i)))

pub local_told : (v : CellValue) (p : ℕ) (op : Op) → is_some (local_answer v p op) ≡ is_local_in (idle_part v) p op
unfolding local_answer is_local_in
local_told v p (Store base i value) = store_told v p (held_in v.process base.0) i (held_in v.process value.0)
local_told v p (Load r base i) = load_told v p (held_in v.process base.0) i (held_in v.process r.0)
local_told v p (Move r from) = is_some_if (is_own p (held_in v.process r.0) && is_own p (held_in v.process from.0)) Done
local_told v p (Clear r) = is_some_if (is_own p (held_in v.process r.0)) Done
local_told v p (Put base i number) = put_told v p (held_in v.process base.0) i
local_told v p (Get base i) = get_told v p (held_in v.process base.0) i
local_told v p _ = refl

-- what is answered where the access goes on
answer_first : (own past of_kind : Bool) (answer : Option Reply) (said : Reply) → cond own (cond past (Some (Refused NoField)) (cond of_kind answer (Some (Refused WrongKind)))) None ≡ Some said → own ≡ true
answer_first true past of_kind answer said e = refl
answer_first false past of_kind answer said e = absurd (cc)

own_value : (trace : Trace) (book : BookPart) (p : ℕ) (value : Option Name) → owner_in trace book (p + 1) ≡ user p → is_own p value ≡ true → passes_barrier_in (owner_in trace book) (user p) value ≡ true
own_value trace book p None owner own = refl
own_value trace book p (Some y) owner own =
    let at : owner_in trace book y.seg.0 ≡ user p = ap (owner_in trace book) (eqb-true y.seg.0 (p + 1) own) ∙ owner in
    ap (λ h. legal_store (kind_of (user p)) (kind_of h) (heap_eq (user p) h)) at ∙ ap (legal_store (kind_of (user p)) (kind_of (user p))) (heap_eq_refl (user p))

-- the process's own heap is not foreign to it
not_foreign : (p : ℕ) → is_foreign (user p) p ≡ false
not_foreign p = ap not (eq-eqb p p refl)

module _ (book : BookPart) (p : ℕ) where
  unfolded_store : (foreign past of_kind frozen passes : Bool) → foreign ≡ false → frozen ≡ false →
      refused_or (first_fault (fault_where foreign Foreign ∷ None ∷ fault_where past NoField ∷ fault_where (not of_kind) WrongKind ∷ fault_where frozen Frozen ∷ fault_where (not passes) Segv ∷ [])) Done
      ≡ cond past (Refused NoField) (cond of_kind (cond passes Done (Refused Segv)) (Refused WrongKind))
  unfolding first_fault fault_where
  unfolded_store true past of_kind frozen passes f z = absurd (false≢true (sym f))
  unfolded_store false past of_kind true passes f z = absurd (false≢true (sym z))
  unfolded_store false true of_kind false passes f z = refl
  unfolded_store false false false false passes f z = refl
  unfolded_store false false true false true f z = refl
  unfolded_store false false true false false f z = refl

  unfolded_load : (foreign past of_kind : Bool) (answer : Reply) → foreign ≡ false →
      refused_or (first_fault (fault_where foreign Foreign ∷ None ∷ fault_where past NoField ∷ fault_where (not of_kind) WrongKind ∷ [])) answer ≡ cond past (Refused NoField) (cond of_kind answer (Refused WrongKind))
  unfolding first_fault fault_where
  unfolded_load true past of_kind answer f = absurd (false≢true (sym f))
  unfolded_load false true of_kind answer f = refl
  unfolded_load false false false answer f = refl
  unfolded_load false false true answer f = refl

-- with the object the process's own
taken : (own past of_kind goes_on : Bool) (answer said segv : Reply) → own ≡ true → cond own (cond past (Some (Refused NoField)) (cond of_kind (cond goes_on (Some answer) None) (Some (Refused WrongKind)))) None ≡ Some said →
    (goes_on ≡ true → segv ≡ answer) → said ≡ cond past (Refused NoField) (cond of_kind segv (Refused WrongKind))
taken false past of_kind goes_on answer said segv own e same = absurd (false≢true own)
taken true true of_kind goes_on answer said segv own e same = cc
taken true false false goes_on answer said segv own e same = cc
taken true false true true answer said segv own e same = let is : answer ≡ said = cc in sym (same refl ∙ is)
taken true false true false answer said segv own e same = absurd (cc)

passes_done : (b : Bool) (r : Reply) → b ≡ true → cond b Done r ≡ Done
passes_done b r e = ap (λ c. cond c Done r) e

flip : (b : Bool) → b ≡ not (not b)
flip true = refl
flip false = refl

module _ (trace : Trace) (book : BookPart) (parts : Cell → CellPart) (pid : Pid) (v : CellValue) (own : ShowOwn trace book parts pid v) where
  at_own : (change : CellPart → CellPart) (f : Cell → CellPart) → at_cell (user pid.0) change f (user pid.0) ≡ change (f (user pid.0))
  at_own change f = ap (λ b. cond b (change (f (user pid.0))) (f (user pid.0))) (heap_eq_refl (user pid.0))

  -- the part with its register set
  register_set : (r : ℕ) (value : Option Name) → cells_with_register pid.0 r value parts (user pid.0) ≡ with_register r value (idle_part v)
  register_set r value = at_own (with_register r value) parts ∙ ap (with_register r value) own.part

  held : (r : ℕ) → register_in parts pid.0 r ≡ held_in v.process r
  held r = ap (λ (q : CellPart). held_in q.process r) own.part

  owner_at : (x : Name) → (x.seg.0 == pid.0 + 1) ≡ true → owner_in trace book x.seg.0 ≡ user pid.0
  owner_at x mine = ap (owner_in trace book) (eqb-true x.seg.0 (pid.0 + 1) mine) ∙ own.owner

  part_at : (x : Name) → (x.seg.0 == pid.0 + 1) ≡ true → parts (owner_in trace book x.seg.0) ≡ idle_part v
  part_at x mine = ap parts (owner_at x mine) ∙ own.part

  mine_of : (x : Name) (i : ℕ) (of_kind : Bool) (answer : Option Reply) (said : Reply) → field_answer v pid.0 x i of_kind answer ≡ Some said → (x.seg.0 == pid.0 + 1) ≡ true
  mine_of x i of_kind answer said e = answer_first (x.seg.0 == pid.0 + 1) (nat_le (field_count_among v.objects x) i) of_kind answer said e

  loaded_same : (x : Name) (i : ℕ) (said : Reply) (old : Option Name) → load_answer v pid.0 (Some x) i old ≡ Some said → Loaded (reference (field_among v.objects x i)) ≡ Loaded (reference_from_in trace book parts (Some x) i)
  loaded_same x i said old e =
      let mine = mine_of x i (is_ref (field_among v.objects x i)) (cond (is_own pid.0 (reference (field_among v.objects x i)) && is_own pid.0 old) (Some (Loaded (reference (field_among v.objects x i)))) None) said e in
      sym (ap (λ q. Loaded (reference (field_in q x i))) (part_at x mine))

  number_same : (x : Name) (i : ℕ) (said : Reply) → get_answer v pid.0 (Some x) i ≡ Some said → Value (number_in (field_among v.objects x i)) ≡ Value (number_from_in trace book parts (Some x) i)
  number_same x i said e =
      let mine = mine_of x i (not (is_ref (field_among v.objects x i))) (Some (Value (number_in (field_among v.objects x i)))) said e in
      sym (ap (λ q. Value (number_in (field_in q x i))) (part_at x mine))

  store_reply : (x : Name) (i : ℕ) (value : Option Name) (said : Reply) → store_answer v pid.0 (Some x) i value ≡ Some said →
      said ≡ refused_or (first_fault (store_faults_in trace book (owner_in trace book x.seg.0) (parts (owner_in trace book x.seg.0)) pid.0 i value x)) Done
  unfolding access_faults_in
  store_reply x i value said e =
      let mine = answer_first (x.seg.0 == pid.0 + 1) (nat_le (field_count_among v.objects x) i) (is_ref (field_among v.objects x i)) (cond (is_own pid.0 value) (Some Done) None) said e in
      taken (x.seg.0 == pid.0 + 1) (nat_le (field_count_among v.objects x) i) (is_ref (field_among v.objects x i)) (is_own pid.0 value) Done said
      (cond (passes_barrier_in (owner_in trace book) (user pid.0) value) Done (Refused Segv)) mine e
      (λ mine_too. passes_done (passes_barrier_in (owner_in trace book) (user pid.0) value) (Refused Segv) (own_value trace book pid.0 value own.owner mine_too))
      ∙ sym (unfolded_store book pid.0 (is_foreign (user pid.0) pid.0) (nat_le (field_count_among v.objects x) i) (is_ref (field_among v.objects x i)) false (passes_barrier_in (owner_in trace book) (user pid.0) value) (not_foreign pid.0) refl)
      ∙ sym (ap (λ h. refused_or (first_fault (store_faults_in trace book h (parts h) pid.0 i value x)) Done) (owner_at x mine)
      ∙ ap (λ q. refused_or (first_fault (store_faults_in trace book (user pid.0) q pid.0 i value x)) Done) own.part)

  load_reply : (x : Name) (i : ℕ) (goes_on : Bool) (answer said : Reply) → cond (x.seg.0 == pid.0 + 1) (cond (nat_le (field_count_among v.objects x) i) (Some (Refused NoField)) (cond (is_ref (field_among v.objects x i)) (cond goes_on (Some answer) None) (Some (Refused WrongKind)))) None ≡ Some said →
      said ≡ refused_or (first_fault (load_faults_in book (owner_in trace book x.seg.0) (parts (owner_in trace book x.seg.0)) pid.0 i x)) answer
  unfolding access_faults_in
  load_reply x i goes_on answer said e =
      let mine = answer_first (x.seg.0 == pid.0 + 1) (nat_le (field_count_among v.objects x) i) (is_ref (field_among v.objects x i)) (cond goes_on (Some answer) None) said e in
      taken (x.seg.0 == pid.0 + 1) (nat_le (field_count_among v.objects x) i) (is_ref (field_among v.objects x i)) goes_on answer said answer mine e (λ t. refl)
      ∙ sym (unfolded_load book pid.0 (is_foreign (user pid.0) pid.0) (nat_le (field_count_among v.objects x) i) (is_ref (field_among v.objects x i)) answer (not_foreign pid.0))
      ∙ sym (ap (λ h. refused_or (first_fault (load_faults_in book h (parts h) pid.0 i x)) answer) (owner_at x mine)
      ∙ ap (λ q. refused_or (first_fault (load_faults_in book (user pid.0) q pid.0 i x)) answer) own.part)

  number_reply : (x : Name) (i : ℕ) (answer said : Reply) → cond (x.seg.0 == pid.0 + 1) (cond (nat_le (field_count_among v.objects x) i) (Some (Refused NoField)) (cond (not (is_ref (field_among v.objects x i))) (Some answer) (Some (Refused WrongKind)))) None ≡ Some said →
      said ≡ refused_or (first_fault (number_faults_in book (owner_in trace book x.seg.0) (parts (owner_in trace book x.seg.0)) pid.0 i x)) answer
  unfolding access_faults_in
  number_reply x i answer said e =
      let mine = answer_first (x.seg.0 == pid.0 + 1) (nat_le (field_count_among v.objects x) i) (not (is_ref (field_among v.objects x i))) (Some answer) said e in
      taken (x.seg.0 == pid.0 + 1) (nat_le (field_count_among v.objects x) i) (not (is_ref (field_among v.objects x i))) true answer said answer mine e (λ t. refl)
      ∙ sym (unfolded_load book pid.0 (is_foreign (user pid.0) pid.0) (nat_le (field_count_among v.objects x) i) (not (is_ref (field_among v.objects x i))) answer (not_foreign pid.0))
      ∙ ap (λ b. refused_or (first_fault (fault_where (is_foreign (user pid.0) pid.0) Foreign ∷ None ∷ fault_where (nat_le (field_count_among v.objects x) i) NoField ∷ fault_where b WrongKind ∷ [])) answer) (sym (flip (is_ref (field_among v.objects x i))))
      ∙ sym (ap (λ h. refused_or (first_fault (number_faults_in book h (parts h) pid.0 i x)) answer) (owner_at x mine)
      ∙ ap (λ q. refused_or (first_fault (number_faults_in book (user pid.0) q pid.0 i x)) answer) own.part)

  -- the reply is the machine's
  pub replied : (op : Op) (said : Reply) → local_answer v pid.0 op ≡ Some said → said ≡ reply_in trace book parts pid.0 op
  unfolding local_answer reply_in faults_in answer_in first_fault
  replied (Store base i value) said e =
      by_base (held_in v.process base.0) e
      ∙ sym (ap₂ (λ b w. refused_or (first_fault (at_base b (λ x. store_faults_in trace book (owner_in trace book x.seg.0) (parts (owner_in trace book x.seg.0)) pid.0 i w x))) Done) (held base.0) (held value.0))
    where
      by_base : (b : Option Name) → store_answer v pid.0 b i (held_in v.process value.0) ≡ Some said →
          said ≡ refused_or (first_fault (at_base b (λ x. store_faults_in trace book (owner_in trace book x.seg.0) (parts (owner_in trace book x.seg.0)) pid.0 i (held_in v.process value.0) x))) Done
      by_base None f = cc
      by_base (Some x) f = store_reply x i (held_in v.process value.0) said f
  replied (Load r base i) said e =
      by_base (held_in v.process base.0) e
      ∙ sym (ap (λ b. refused_or (first_fault (at_base b (λ x. load_faults_in book (owner_in trace book x.seg.0) (parts (owner_in trace book x.seg.0)) pid.0 i x))) (Loaded (reference_from_in trace book parts b i))) (held base.0))
    where
      by_base : (b : Option Name) → load_answer v pid.0 b i (held_in v.process r.0) ≡ Some said →
          said ≡ refused_or (first_fault (at_base b (λ x. load_faults_in book (owner_in trace book x.seg.0) (parts (owner_in trace book x.seg.0)) pid.0 i x))) (Loaded (reference_from_in trace book parts b i))
      by_base None f = cc
      by_base (Some x) f = load_reply x i (is_own pid.0 (reference (field_among v.objects x i)) && is_own pid.0 (held_in v.process r.0)) (Loaded (reference (field_among v.objects x i))) said f
          ∙ ap (λ answer. refused_or (first_fault (load_faults_in book (owner_in trace book x.seg.0) (parts (owner_in trace book x.seg.0)) pid.0 i x)) answer) (loaded_same x i said (held_in v.process r.0) f)
  replied (Move r from) said e = by_own (is_own pid.0 (held_in v.process r.0) && is_own pid.0 (held_in v.process from.0)) e
    where
      by_own : (b : Bool) → cond b (Some Done) None ≡ Some said → said ≡ Done
      by_own true f = cc
      by_own false f = absurd (cc)
  replied (Clear r) said e = by_own (is_own pid.0 (held_in v.process r.0)) e
    where
      by_own : (b : Bool) → cond b (Some Done) None ≡ Some said → said ≡ Done
      by_own true f = cc
      by_own false f = absurd (cc)
  replied (Put base i number) said e =
      by_base (held_in v.process base.0) e
      ∙ sym (ap (λ b. refused_or (first_fault (at_base b (λ x. number_faults_in book (owner_in trace book x.seg.0) (parts (owner_in trace book x.seg.0)) pid.0 i x))) Done) (held base.0))
    where
      by_base : (b : Option Name) → put_answer v pid.0 b i ≡ Some said → said ≡ refused_or (first_fault (at_base b (λ x. number_faults_in book (owner_in trace book x.seg.0) (parts (owner_in trace book x.seg.0)) pid.0 i x))) Done
      by_base None f = cc
      by_base (Some x) f = number_reply x i Done said f
  replied (Get base i) said e =
      by_base (held_in v.process base.0) e
      ∙ sym (ap (λ b. refused_or (first_fault (at_base b (λ x. number_faults_in book (owner_in trace book x.seg.0) (parts (owner_in trace book x.seg.0)) pid.0 i x))) (Value (number_from_in trace book parts b i))) (held base.0))
    where
      by_base : (b : Option Name) → get_answer v pid.0 b i ≡ Some said →
          said ≡ refused_or (first_fault (at_base b (λ x. number_faults_in book (owner_in trace book x.seg.0) (parts (owner_in trace book x.seg.0)) pid.0 i x))) (Value (number_from_in trace book parts b i))
      by_base None f = cc
      by_base (Some x) f = number_reply x i (Value (number_in (field_among v.objects x i))) said f
          ∙ ap (λ answer. refused_or (first_fault (number_faults_in book (owner_in trace book x.seg.0) (parts (owner_in trace book x.seg.0)) pid.0 i x)) answer) (number_same x i said f)
  replied _ said e = absurd (cc)

  -- unless it is refused the operation changes the process's cell as the machine does
  unless_any : (r : Reply) (after : Cell → CellPart) (changed : CellValue) → after (user pid.0) ≡ idle_part changed → unless_refused r after parts (user pid.0) ≡ idle_part (unless_refused r changed v)
  unless_any Done after changed h = h
  unless_any (Made n) after changed h = h
  unless_any (Loaded value) after changed h = h
  unless_any (Value n) after changed h = h
  unless_any (Refused fault) after changed h = own.part

  unless_field : (mine past of_kind goes_on : Bool) (answer said : Reply) (after : Reply → Cell → CellPart) (changed : CellValue) →
      cond mine (cond past (Some (Refused NoField)) (cond of_kind (cond goes_on (Some answer) None) (Some (Refused WrongKind)))) None ≡ Some said →
      (mine ≡ true → goes_on ≡ true → after answer (user pid.0) ≡ idle_part changed) → unless_refused said (after said) parts (user pid.0) ≡ idle_part (unless_refused said changed v)
  unless_field false past of_kind goes_on answer said after changed e here = absurd (cc)
  unless_field true true of_kind goes_on answer said after changed e here =
      let is : Refused NoField ≡ said = cc in
      subst (λ r. unless_refused r (after r) parts (user pid.0) ≡ idle_part (unless_refused r changed v)) is own.part
  unless_field true false false goes_on answer said after changed e here =
      let is : Refused WrongKind ≡ said = cc in
      subst (λ r. unless_refused r (after r) parts (user pid.0) ≡ idle_part (unless_refused r changed v)) is own.part
  unless_field true false true true answer said after changed e here =
      let is : answer ≡ said = cc in
      subst (λ r. unless_refused r (after r) parts (user pid.0) ≡ idle_part (unless_refused r changed v)) is (unless_any answer (after answer) changed (here refl refl))
  unless_field true false true false answer said after changed e here = absurd (cc)

  null_base : (said : Reply) (after : Reply → Cell → CellPart) (changed : CellValue) → Some (Refused Null) ≡ Some said → unless_refused said (after said) parts (user pid.0) ≡ idle_part (unless_refused said changed v)
  null_base said after changed e =
      let is : Refused Null ≡ said = cc in
      subst (λ r. unless_refused r (after r) parts (user pid.0) ≡ idle_part (unless_refused r changed v)) is own.part

  put_here : (x : Name) (i number : ℕ) → (x.seg.0 == pid.0 + 1) ≡ true → cells_put (owner_in trace book) (Some x) i number parts (user pid.0) ≡ with_written x i (Holds number) (idle_part v)
  put_here x i number mine =
      ap (λ h. at_cell h (with_written x i (Holds number)) parts (user pid.0)) (owner_at x mine) ∙ at_own (with_written x i (Holds number)) parts ∙ ap (with_written x i (Holds number)) own.part

  no_exit : (x : Name) (value : Option Name) (q : CellPart) → (x.seg.0 == pid.0 + 1) ≡ true → is_own pid.0 value ≡ true → with_exit_for (owner_in trace book) x value q ≡ q
  no_exit x None q mine theirs = refl
  no_exit x (Some y) q mine theirs =
      ap₂ (λ h k. cond (heap_eq h k) q (with_exit_to y q)) (owner_at x mine) (owner_at y theirs) ∙ ap (λ b. cond b q (with_exit_to y q)) (heap_eq_refl (user pid.0))

  store_here : (x : Name) (i : ℕ) (value : Option Name) → (x.seg.0 == pid.0 + 1) ≡ true → is_own pid.0 value ≡ true → cells_stored (owner_in trace book) (Some x) i value parts (user pid.0) ≡ with_written x i (Refers value) (idle_part v)
  store_here x i value mine theirs =
      ap (λ h. at_cell h (with_written x i (Refers value)) (at_cell h (with_exit_for (owner_in trace book) x value) parts) (user pid.0)) (owner_at x mine)
      ∙ at_own (with_written x i (Refers value)) (at_cell (user pid.0) (with_exit_for (owner_in trace book) x value) parts)
      ∙ ap (with_written x i (Refers value)) (at_own (with_exit_for (owner_in trace book) x value) parts ∙ no_exit x value (parts (user pid.0)) mine theirs ∙ own.part)

  pub changed : (op : Op) (said : Reply) → local_answer v pid.0 op ≡ Some said → unless_refused said (cells_operated trace book parts pid.0 op said) parts (user pid.0) ≡ idle_part (unless_refused said (local_change v op) v)
  unfolding local_answer local_change cells_operated
  changed (Store base i value) said e =
      ap₂ (λ b w. unless_refused said (cells_stored (owner_in trace book) b i w parts) parts (user pid.0)) (held base.0) (held value.0)
      ∙ by_base (held_in v.process base.0) e
    where
      by_base : (b : Option Name) → store_answer v pid.0 b i (held_in v.process value.0) ≡ Some said →
          unless_refused said (cells_stored (owner_in trace book) b i (held_in v.process value.0) parts) parts (user pid.0) ≡ idle_part (unless_refused said (written_through b i (Refers (held_in v.process value.0)) v) v)
      by_base None f = null_base said (λ r. cells_stored (owner_in trace book) None i (held_in v.process value.0) parts) v f
      by_base (Some x) f =
          unless_field (x.seg.0 == pid.0 + 1) (nat_le (field_count_among v.objects x) i) (is_ref (field_among v.objects x i)) (is_own pid.0 (held_in v.process value.0)) Done said
          (λ r. cells_stored (owner_in trace book) (Some x) i (held_in v.process value.0) parts) (written_through (Some x) i (Refers (held_in v.process value.0)) v) f
          (λ mine theirs. store_here x i (held_in v.process value.0) mine theirs)
  changed (Load r base i) said e = by_base (held_in v.process base.0) e
    where
      by_base : (b : Option Name) → load_answer v pid.0 b i (held_in v.process r.0) ≡ Some said →
          unless_refused said (cells_with_register pid.0 r.0 (reference_given said) parts) parts (user pid.0) ≡ idle_part (unless_refused said (with_register_in r.0 (loaded_through v b i) v) v)
      by_base None f = null_base said (λ reply. cells_with_register pid.0 r.0 (reference_given reply) parts) (with_register_in r.0 None v) f
      by_base (Some x) f =
          unless_field (x.seg.0 == pid.0 + 1) (nat_le (field_count_among v.objects x) i) (is_ref (field_among v.objects x i)) (is_own pid.0 (reference (field_among v.objects x i)) && is_own pid.0 (held_in v.process r.0))
          (Loaded (reference (field_among v.objects x i))) said (λ reply. cells_with_register pid.0 r.0 (reference_given reply) parts) (with_register_in r.0 (reference (field_among v.objects x i)) v) f
          (λ mine theirs. register_set r.0 (reference (field_among v.objects x i)))
  changed (Move r from) said e =
      unless_any said (cells_with_register pid.0 r.0 (register_in parts pid.0 from.0) parts) (with_register_in r.0 (held_in v.process from.0) v)
      (register_set r.0 (register_in parts pid.0 from.0) ∙ ap (λ w. with_register r.0 w (idle_part v)) (held from.0))
  changed (Clear r) said e = unless_any said (cells_with_register pid.0 r.0 None parts) (with_register_in r.0 None v) (register_set r.0 None)
  changed (Put base i number) said e =
      ap (λ b. unless_refused said (cells_put (owner_in trace book) b i number parts) parts (user pid.0)) (held base.0)
      ∙ by_base (held_in v.process base.0) e
    where
      by_base : (b : Option Name) → put_answer v pid.0 b i ≡ Some said →
          unless_refused said (cells_put (owner_in trace book) b i number parts) parts (user pid.0) ≡ idle_part (unless_refused said (written_through b i (Holds number) v) v)
      by_base None f = null_base said (λ r. cells_put (owner_in trace book) None i number parts) v f
      by_base (Some x) f =
          unless_field (x.seg.0 == pid.0 + 1) (nat_le (field_count_among v.objects x) i) (not (is_ref (field_among v.objects x i))) true Done said
          (λ r. cells_put (owner_in trace book) (Some x) i number parts) (written_through (Some x) i (Holds number) v) f
          (λ mine t. put_here x i number mine)
  changed (Get base i) said e = unless_any said parts v own.part
  changed _ said e = absurd (cc)

  pub after : (op : Op) (said : Reply) → local_answer v pid.0 op ≡ Some said → idle_part (after_local pid op said v) ≡ cell_after trace book parts (DoneEvent pid op said) (user pid.0)
  unfolding cell_after
  after op said e = sym (at_own with_done (unless_refused said (cells_operated trace book parts pid.0 op said) parts) ∙ ap with_done (changed op said e))

pub machines : (trace : Trace) (book : BookPart) (parts : Cell → CellPart) (pid : Pid) (v : CellValue) (op : Op) (said : Reply) → ShowOwn trace book parts pid v → local_answer v pid.0 op ≡ Some said →
    IsMachines trace book parts pid v (after_local pid op said v) op said
machines trace book parts pid v op said own e = record { replied = replied trace book parts pid v own op said e; after = after trace book parts pid v own op said e }

-- what is done inside the heap leaves the book's part
pub leaves_the_book : (pid : Pid) (v : CellValue) (op : Op) (said : Reply) → local_answer v pid.0 op ≡ Some said → LeavesTheBook pid v op said
unfolding step
leaves_the_book pid v op said e trace st known lives shown =
    local_operations_go_by_their_cell-book trace pid.0 st op known lives
    (local_operations_are_told trace st pid.0 op known lives ∙ ap (λ (q : CellPart). is_local_in q pid.0 op) shown ∙ sym (local_told v pid.0 op) ∙ ap is_some e)
