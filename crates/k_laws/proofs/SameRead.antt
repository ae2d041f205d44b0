-- What is read is the same in two states where the parts are.
use Rattle.std.proofs.Common.{◌≡◌, ℕ, ◌<◌, cond, not, refl, sym, ap, ◌∙◌, [], ◌∷◌, length, Option, Some, None, get_or, ◌&&◌}
use Rattle.k_types.specs.declared.names.Name.{Name}
use Rattle.k_types.specs.declared.names.Heap.{Heap}
use Rattle.k_types.specs.declared.names.Heap.TheVariants.{Kernel, User, Shared}
use Rattle.k_types.specs.declared.op.Op.{Op}
use Rattle.k_types.specs.declared.op.Op.TheVariants.{Store, Load, Put, Get, Kill}
use Rattle.k_types.specs.declared.event.Fault.TheVariants.{NotSharer}
use Rattle.k_types.specs.Trace.{Trace}
use Rattle.k_types.specs.TraceRules.{AreLimits}
use Rattle.k_types.specs.State.{State, object_at, register, has_share}
use Rattle.k_types.specs.Owners.{owner_of, user, shared, bytes_of, phase_of}
use Rattle.k_types.specs.Limits.{full_limit, full_for, use_of, is_above}
use Rattle.k_types.specs.Updates.{next_name}
use Rattle.k_types.specs.Replies.{fault_where, sharer_fault, is_frozen_heap, is_frozen}
use Rattle.k_laws.specs.PartUpdates.{held_in}
use Rattle.k_types.specs.Cells.{BookPart, CellPart, part, book_part, base_cell, access_cell, other_cells, use_shown}
use Rattle.k_laws.specs.CellChanges.{next_name_in}
use Rattle.k_laws.specs.BookChanges.{owner_in, bytes_in}
use Rattle.k_laws.specs.Told.{full_limit_in, full_for_in}
use Rattle.k_laws.proofs.OnBook.{owner_told}
use Rattle.k_laws.proofs.ToldBy.{object_told, register_told, name_told, bytes_told, shared_bytes_told, limit_told, full_for_told}
use Rattle.k_laws.proofs.UseShown.{use_is_shown}
use Rattle.k_laws.proofs.PartsTell.{owner_same, phases_same, ended_same}

-- by the book
module _ (trace : Trace) (st su : State) (book : book_part trace st ≡ book_part trace su) where
  pub owners_same : owner_of trace st ≡ owner_of trace su
  owners_same = sym (owner_told trace st) ∙ ap (owner_in trace) book ∙ owner_told trace su

  pub shares_same : (p s : ℕ) → has_share st.shares p s ≡ has_share su.shares p s
  unfolding book_part
  shares_same p s = ap (λ (b : BookPart). b.shares p s) book

  pub closed_same : st.closed ≡ su.closed
  unfolding book_part
  closed_same = ap (λ (b : BookPart). b.closed) book

  pub limit_same : AreLimits trace → (m n : ℕ) → m < length trace.limits → full_limit trace st m n ≡ full_limit trace su m n
  limit_same limits m n known =
      sym (limit_told trace limits st m n known) ∙ ap (λ b. full_limit_in trace b m n) book ∙ limit_told trace limits su m n known

  pub use_same : (m : ℕ) → m < length trace.limits → use_of trace st m ≡ use_of trace su m
  use_same m known = sym (use_is_shown trace st m known) ∙ ap (λ b. use_shown trace b m) book ∙ use_is_shown trace su m known

  pub full_for_same : AreLimits trace → (m max : ℕ) → m < length trace.limits → full_for trace st m max ≡ full_for trace su m max
  full_for_same limits m max known =
      sym (full_for_told trace limits st m max known) ∙ ap (λ b. full_for_in trace b m max) book ∙ full_for_told trace limits su m max known

  pub shared_bytes_same : (s : ℕ) → s < trace.shared_heaps → bytes_of trace st (shared s) ≡ bytes_of trace su (shared s)
  shared_bytes_same s inside =
      sym (shared_bytes_told trace st s inside) ∙ ap (λ (b : BookPart). get_or b.shared_bytes s 0) book ∙ shared_bytes_told trace su s inside

  pub sharer_same : (h : Heap) (p : ℕ) → sharer_fault st h p ≡ sharer_fault su h p
  sharer_same Kernel p = refl
  sharer_same (User q) p = refl
  sharer_same (Shared s) p = ap (λ b. fault_where (not b) (NotSharer s)) (shares_same p s.0)

  pub frozen_same : (h : Heap) → is_frozen_heap st h ≡ is_frozen_heap su h
  frozen_same Kernel = refl
  frozen_same (User q) = refl
  frozen_same (Shared s) = ap (λ phases. is_frozen (phase_of phases s.0)) (phases_same trace st su book)

  -- the cells of an access
  base_same : (h : Heap) (p : ℕ) → base_cell st p h ≡ base_cell su p h
  base_same Kernel p = refl
  base_same (User q) p = refl
  base_same (Shared s) p = ap (λ b. cond b (Shared s ∷ []) []) (shares_same p s.0)

  access_same : (p : ℕ) (r : Option Name) → access_cell trace st p r ≡ access_cell trace su p r
  access_same p None = refl
  access_same p (Some x) = base_same (owner_of trace st x.seg.0) p ∙ ap (base_cell su p) (owner_same trace st su book x.seg.0)

  -- by the cell of an object's owner
  module _ (c : Heap) (same : part trace st c ≡ part trace su c) where
    pub object_same : (x : Name) → owner_of trace st x.seg.0 ≡ c → object_at st.objects x ≡ object_at su.objects x
    object_same x own =
        sym (object_told trace st c x own) ∙ ap (λ (q : CellPart). object_at q.objects x) same ∙ object_told trace su c x (sym (owner_same trace st su book x.seg.0) ∙ own)

    pub name_same : (seg : ℕ) → owner_of trace st seg ≡ c → next_name seg st ≡ next_name seg su
    name_same seg own =
        sym (name_told trace st c seg own) ∙ ap (next_name_in seg) same ∙ name_told trace su c seg (sym (owner_same trace st su book seg) ∙ own)

    pub bytes_same : bytes_of trace st c ≡ bytes_of trace su c
    bytes_same = sym (bytes_told trace st c) ∙ ap bytes_in same ∙ bytes_told trace su c

  -- by the cell of the process
  module _ (p : ℕ) (same : part trace st (user p) ≡ part trace su (user p)) where
    pub register_same : (r : ℕ) → register st.registers p r ≡ register su.registers p r
    register_same r = sym (register_told trace st p r) ∙ ap (λ (c : CellPart). held_in c.process r) same ∙ register_told trace su p r

    through : (r : ℕ) → access_cell trace st p (register st.registers p r) ≡ access_cell trace su p (register su.registers p r)
    through r = access_same p (register st.registers p r) ∙ ap (access_cell trace su p) (register_same r)

    pub others_same : (op : Op) → other_cells trace st p op ≡ other_cells trace su p op
    unfolding other_cells
    others_same (Store base i value) = through base.0
    others_same (Load r base i) = through base.0
    others_same (Put base i number) = through base.0
    others_same (Get base i) = through base.0
    others_same (Kill q) = ap (λ b. cond (is_above trace p q.0 && not b) (User q ∷ Kernel ∷ []) []) (ended_same trace st su book q.0)
    others_same _ = refl
