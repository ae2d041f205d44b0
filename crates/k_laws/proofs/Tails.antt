-- The law on tails: a list of local events does the same after more events that don't touch its cell.
use Rattle.std.proofs.Common.{◌≡◌, ℕ, ◌+◌, ◌<◌, ◌==◌, ◌||◌, ◌&&◌, not, Bool, true, false, refl, sym, ap, ◌∙◌, List, [], ◌∷◌, ◌++◌, length, Option, Some, None, eqb-true, IsTrue, IsFalse, length-set, subst, get_or, nat_le, is_some, suc, cond, eq-eqb}
use Rattle.std.specs.List.{list_any, list_all}
use Rattle.std.proofs.lemmas.Bool.{false≢true, and_parts, and_from, or_left, not_from_false}
use Rattle.k_types.specs.declared.names.Pid.{Pid}
use Rattle.k_types.specs.declared.names.Name.{Name}
use Rattle.k_types.specs.declared.names.Heap.TheVariants.{User}
use Rattle.k_types.specs.declared.op.Op.{Op}
use Rattle.k_types.specs.declared.op.Op.TheVariants.{New, Store, Load, Move, Clear, Dir, Put, Get, Collect, KCollect}
use Rattle.k_types.specs.declared.event.Fault.{Fault}
use Rattle.k_types.specs.declared.event.Reply.{Reply}
use Rattle.k_types.specs.declared.event.Event.{Event}
use Rattle.k_types.specs.declared.event.Event.TheVariants.{Done, Ended, Absorbed, Closing}
use Rattle.k_types.specs.Names.{heap_eq, among}
use Rattle.k_types.specs.Trace.{Trace, process_count}
use Rattle.k_types.specs.State.{opening, Holds, fields_of, State, scan_of, is_scanned, register}
use Rattle.k_types.specs.Owners.{owner_of, user}
use Rattle.k_types.specs.Updates.{count_done}
use Rattle.k_types.specs.Replies.{is_ref, reference, first_fault, faults, reply_to}
use Rattle.k_types.specs.Effects.{step, effect_unless, after_operation}
use Rattle.k_laws.specs.Tails.{TailFollows}
use Rattle.k_laws.proofs.Sizes.{history_sized}
use Rattle.k_types.specs.Cells.{part, Cell, cells_touched, touches, other_cells, access_cell, base_cell, book_part}
use Rattle.k_types.specs.Steps.{IsPossible, IsRun, run, IsLegalHistory, state_after, waits_for_orphans, touch_count_from, done_by}
use Rattle.k_types.specs.Local.{is_local, AreLocal, is_local_load, is_local_store, is_own}
use Rattle.k_laws.specs.Alike.{Alike}
use Rattle.k_laws.proofs.LocalSteps.{lives_too, reply_same, faults_same, same_register, same_object}
use Rattle.k_laws.proofs.OwnerOf.{owner_user}
use Rattle.k_laws.proofs.LocalEffects.{effect_same, part_done}
use Rattle.k_laws.specs.PartUpdates.{with_done}
use Rattle.k_laws.proofs.LocalBook.{KeepsBook, effect_keeps_book}
use Rattle.k_laws.proofs.Untouched.{part_kept}
use Rattle.k_laws.proofs.Histories.{run_append, legal_rest, legal_append}
use Rattle.k_laws.proofs.FrameSteps.{after_operation_elsewhere}

book_done : (trace : Trace) (st : State) (p : ℕ) → book_part trace (count_done p st) ≡ book_part trace st
unfolding book_part count_done
book_done trace st p = refl

own_cell : (trace : Trace) (st : State) (p : ℕ) (x : Name) → p < process_count trace → IsFalse (among p st.ended) → IsTrue (x.seg.0 == p + 1) → base_cell st p (owner_of trace st x.seg.0) ≡ []
own_cell trace st p x known lives own = ap (base_cell st p) (ap (owner_of trace st) (eqb-true x.seg.0 (p + 1) own) ∙ owner_user trace st p known lives)

own_access : (trace : Trace) (st : State) (p : ℕ) (b : Option Name) → p < process_count trace → IsFalse (among p st.ended) → IsTrue (is_own p b) → access_cell trace st p b ≡ []
own_access trace st p None known lives o = refl
own_access trace st p (Some x) known lives o = own_cell trace st p x known lives o

-- a local operation touches no other cell
local_beside : (trace : Trace) (st : State) (p : ℕ) (op : Op) → p < process_count trace → IsFalse (among p st.ended) → IsTrue (is_local st p op) → other_cells trace st p op ≡ []
unfolding other_cells is_local
local_beside trace st p (Load r base i) known lives l = go (register st.registers p base.0) l
  where
    go : (b : Option Name) → IsTrue (is_local_load st p b i (register st.registers p r.0)) → access_cell trace st p b ≡ []
    go None l = refl
    go (Some x) l = own_cell trace st p x known lives (and_parts (x.seg.0 == p + 1) _ l).0
local_beside trace st p (Store base i value) known lives l = go (register st.registers p base.0) l
  where
    go : (b : Option Name) → IsTrue (is_local_store st p b i (register st.registers p value.0)) → access_cell trace st p b ≡ []
    go None l = refl
    go (Some x) l = own_cell trace st p x known lives (and_parts (x.seg.0 == p + 1) _ l).0
local_beside trace st p (Put base i n) known lives l = own_access trace st p (register st.registers p base.0) known lives l
local_beside trace st p (Get base i) known lives l = own_access trace st p (register st.registers p base.0) known lives l
local_beside trace st p (Move r from) known lives l = refl
local_beside trace st p (Clear r) known lives l = refl
local_beside trace st p (New r ty) known lives l = refl
local_beside trace st p (Dir r) known lives l = refl
local_beside trace st p Collect known lives l = refl
local_beside trace st p _ known lives l = absurd (false≢true l)

pub local_touches : (trace : Trace) (st : State) (pid : Pid) (op : Op) (said : Reply) (c : Cell) → pid.0 < process_count trace → IsFalse (among pid.0 st.ended) → IsTrue (is_local st pid.0 op) →
    touches trace st (Done pid op said) c ≡ heap_eq (user pid.0) c
unfolding cells_touched
local_touches trace st pid op said c known lives l =
    ap (λ cells. heap_eq (user pid.0) c || list_any (λ d. heap_eq d c) cells) (local_beside trace st pid.0 op known lives l) ∙ or_right_none (heap_eq (user pid.0) c)
  where
    or_right_none : (b : Bool) → (b || false) ≡ b
    or_right_none true = refl
    or_right_none false = refl

module _ (trace : Trace) (p : ℕ) where
  kept : (st : State) (op : Op) → p < process_count trace → IsFalse (among p st.ended) → IsTrue (is_local st p op) →
      KeepsBook trace st (effect_unless (first_fault (faults trace st p op)) trace p op st)
  kept st op known lives l = go (first_fault (faults trace st p op)) refl
    where
      go : (f : Option Fault) → first_fault (faults trace st p op) ≡ f → KeepsBook trace st (effect_unless f trace p op st)
      go None e = effect_keeps_book trace st p op known lives l e
      go (Some f) e = record { ended = refl; done = refl; book = refl }

  -- the two states are alike after a local operation
  pub after_alike : (st su : State) (op : Op) → Alike trace p st su → IsTrue (is_local st p op) → IsTrue (is_local su p op) → Alike trace p (after_operation trace p op st) (after_operation trace p op su)
  unfolding after_operation count_done
  after_alike st su op alike l m =
      let ks = kept st op alike.known alike.lives l in
      let ku = kept su op alike.known (lives_too trace p st su alike) m in
      record {
        known = alike.known;
        lives = ap (among p) ks.ended ∙ alike.lives;
        counted = subst (λ n. p < n) (sym (length-set _ p _ ∙ ap length ks.done)) alike.counted;
        counted_too = subst (λ n. p < n) (sym (length-set _ p _ ∙ ap length ku.done)) alike.counted_too;
        same = same_after;
      }
    where
      same_effect : (f : Option Fault) → first_fault (faults trace st p op) ≡ f → part trace (effect_unless f trace p op st) (user p) ≡ part trace (effect_unless f trace p op su) (user p)
      same_effect None e = effect_same trace p st su alike op l e
      same_effect (Some f) e = alike.same

      same_after : part trace (after_operation trace p op st) (user p) ≡ part trace (after_operation trace p op su) (user p)
      same_after =
          let ks = kept st op alike.known alike.lives l in
          let ku = kept su op alike.known (lives_too trace p st su alike) m in
          part_done trace p (effect_unless (first_fault (faults trace st p op)) trace p op st) (subst (λ n. p < n) (sym (ap length ks.done)) alike.counted)
          ∙ ap with_done (same_effect (first_fault (faults trace st p op)) refl ∙ ap (λ f. part trace (effect_unless f trace p op su) (user p)) (faults_same trace p st su alike op l))
          ∙ sym (part_done trace p (effect_unless (first_fault (faults trace su p op)) trace p op su) (subst (λ n. p < n) (sym (ap length ku.done)) alike.counted_too))

  pub local_same : (st su : State) (op : Op) → Alike trace p st su → IsTrue (is_local st p op) → IsTrue (is_local su p op)
  unfolding is_local
  local_same st su (Load r base i) alike l =
      rw (← same_register trace p st su alike base.0, ← same_register trace p st su alike r.0) (go (register st.registers p base.0) (register st.registers p r.0) l)
    where
      go : (b old : Option Name) → IsTrue (is_local_load st p b i old) → IsTrue (is_local_load su p b i old)
      go None old l = l
      go (Some x) old l =
          let own = (and_parts (x.seg.0 == p + 1) _ l).0 in
          subst (λ o. IsTrue ((x.seg.0 == p + 1) && (nat_le (length (fields_of o)) i || not (is_ref (get_or (fields_of o) i (Holds 0))) || (is_own p (reference (get_or (fields_of o) i (Holds 0))) && is_own p old))))
          (same_object trace p st su alike x own) l
  local_same st su (Store base i value) alike l =
      rw (← same_register trace p st su alike base.0, ← same_register trace p st su alike value.0) (go (register st.registers p base.0) (register st.registers p value.0) l)
    where
      go : (b v : Option Name) → IsTrue (is_local_store st p b i v) → IsTrue (is_local_store su p b i v)
      go None v l = l
      go (Some x) v l =
          let own = (and_parts (x.seg.0 == p + 1) _ l).0 in
          subst (λ o. IsTrue ((x.seg.0 == p + 1) && (nat_le (length (fields_of o)) i || not (is_ref (get_or (fields_of o) i (Holds 0))) || is_own p v)))
          (same_object trace p st su alike x own) l
  local_same st su (Put base i n) alike l = rw (← same_register trace p st su alike base.0) l
  local_same st su (Get base i) alike l = rw (← same_register trace p st su alike base.0) l
  local_same st su (Move r from) alike l = rw (← same_register trace p st su alike r.0, ← same_register trace p st su alike from.0) l
  local_same st su (Clear r) alike l = rw (← same_register trace p st su alike r.0) l
  local_same st su _ alike l = l

  pub possible_too : (st su : State) (pid : Pid) (op : Op) (said : Reply) → pid.0 ≡ p → Alike trace p st su → IsTrue (is_local st p op) →
      IsPossible trace st (Done pid op said) → IsPossible trace su (Done pid op said)
  unfolding part is_local cells_touched
  possible_too st su pid op said same alike l may = record {
    known = may.known;
    lives = ap (λ q. among q su.ended) same ∙ (lives_too trace p st su alike);
    in_range = may.in_range;
    idle = idle_too;
    orphans = or_left _ _ (not_from_false _ (never_waits op l));
    replied = may.replied ∙ ap (λ q. reply_to trace st q op) same ∙ reply_same trace p st su alike op l ∙ ap (λ q. reply_to trace su q op) (sym same);
  }
    where
      scan_same : scan_of st.scans (user p) ≡ scan_of su.scans (user p)
      scan_same = ap (λ c. c.scan) alike.same

      never_waits : (op : Op) → IsTrue (is_local st p op) → waits_for_orphans op ≡ false
      never_waits KCollect l = absurd (false≢true l)
      never_waits _ l = refl

      idle_too : IsTrue (list_all (λ c. not (is_scanned su.scans c)) (cells_touched trace su (Done pid op said)))
      idle_too =
          let here = (and_parts (not (is_scanned st.scans (User pid))) _ may.idle).0 in
          and_from _ _
          (ap (λ q. not (is_scanned su.scans (user q))) same ∙ ap (λ o. not (is_some o)) (sym scan_same) ∙ ap (λ q. not (is_scanned st.scans (user q))) (sym same) ∙ here)
          (ap (λ q. list_all (λ c. not (is_scanned su.scans c)) (other_cells trace su q op)) same
          ∙ ap (list_all (λ c. not (is_scanned su.scans c))) (local_beside trace su p op alike.known (lives_too trace p st su alike) (local_same st su op alike l)))

  -- what the list of local events leaves after the other state
  pub record Follows (su : State) (events : List Event) (end : State) : Type 0 where
    pub legal : IsRun trace su events
    pub local : AreLocal trace p su events
    pub cell : part trace (run trace su events) (user p) ≡ part trace end (user p)
    pub book : book_part trace (run trace su events) ≡ book_part trace su
    pub others : (c : Cell) → IsFalse (heap_eq (user p) c) → part trace (run trace su events) c ≡ part trace su c

  pub book_after : (s : State) (op : Op) → p < process_count trace → IsFalse (among p s.ended) → IsTrue (is_local s p op) → book_part trace (after_operation trace p op s) ≡ book_part trace s
  unfolding after_operation
  book_after s op known lives l = book_done trace (effect_unless (first_fault (faults trace s p op)) trace p op s) p ∙ (kept s op known lives l).book

  pub tail_follows : (st su : State) (events : List Event) → Alike trace p st su → AreLocal trace p st events → IsRun trace st events → Follows su events (run trace st events)
  unfolding step
  tail_follows st su [] alike local legal = record { legal = tt; local = tt; cell = sym alike.same; book = refl; others = λ c apart. refl }
  tail_follows st su (Ended h a b c d ∷ events) alike local legal = absurd local
  tail_follows st su (Absorbed s ∷ events) alike local legal = absurd local
  tail_follows st su (Closing ∷ events) alike local legal = absurd local
  tail_follows st su (Done pid op said ∷ events) alike local legal =
      let m = local_same st su op alike local.1 in
      let st_is : step trace st (Done pid op said) ≡ after_operation trace p op st = ap (λ q. after_operation trace q op st) local.0 in
      let su_is : step trace su (Done pid op said) ≡ after_operation trace p op su = ap (λ q. after_operation trace q op su) local.0 in
      let ih = tail_follows (after_operation trace p op st) (after_operation trace p op su) events (after_alike st su op alike local.1 m)
      (subst (λ s. AreLocal trace p s events) st_is local.2) (subst (λ s. IsRun trace s events) st_is legal.1) in
      record {
        legal = (possible_too st su pid op said local.0 alike local.1 legal.0, subst (λ s. IsRun trace s events) (sym su_is) ih.legal);
        local = (local.0, m, subst (λ s. AreLocal trace p s events) (sym su_is) ih.local);
        cell = ap (λ s. part trace (run trace s events) (user p)) su_is ∙ ih.cell ∙ sym (ap (λ s. part trace (run trace s events) (user p)) st_is);
        book = ap (λ s. book_part trace (run trace s events)) su_is ∙ ih.book ∙ book_after su op alike.known (lives_too trace p st su alike) m;
        others = λ c apart. ap (λ s. part trace (run trace s events) c) su_is ∙ ih.others c apart
            ∙ after_operation_elsewhere trace su p c apart op alike.known (lives_too trace p st su alike) (ap (list_any (λ d. heap_eq d c)) (local_beside trace su p op alike.known (lives_too trace p st su alike) m));
      }

-- the law on tails, of histories: what is alike after the shorter one is alike after the longer one
pub tail_law : (trace : Trace) (p : ℕ) (known rest tail : List Event) → IsLegalHistory trace (known ++ rest) → IsLegalHistory trace (known ++ tail) → AreLocal trace p (state_after trace known) tail →
    touch_count_from trace (state_after trace known) (user p) rest ≡ 0 → TailFollows trace p known rest tail
tail_law trace p known rest tail longer short local apart = go tail (legal_rest trace (opening trace) known tail short) local
  where
    moved : state_after trace (known ++ rest) ≡ run trace (state_after trace known) rest
    moved = run_append trace (opening trace) known rest

    same : part trace (state_after trace (known ++ rest)) (user p) ≡ part trace (state_after trace known) (user p)
    same = ap (λ s. part trace s (user p)) moved ∙ part_kept trace (user p) (state_after trace known) rest (legal_rest trace (opening trace) known rest longer) apart

    follow : (tail : List Event) → Follows trace p (state_after trace (known ++ rest)) tail (run trace (state_after trace known) tail) → TailFollows trace p known rest tail
    follow tail f =
        let after = run_append trace (opening trace) (known ++ rest) tail in record {
          legal = legal_append trace (opening trace) (known ++ rest) tail longer f.legal;
          local = f.local;
          cell = ap (λ s. part trace s (user p)) after ∙ f.cell ∙ sym (ap (λ s. part trace s (user p)) (run_append trace (opening trace) known tail));
          book = ap (book_part trace) after ∙ f.book;
          others = λ c other. ap (λ s. part trace s c) after ∙ f.others c other;
        }

    go : (tail : List Event) → IsRun trace (state_after trace known) tail → AreLocal trace p (state_after trace known) tail → TailFollows trace p known rest tail
    go [] legal local = follow [] (record { legal = tt; local = tt; cell = same; book = refl; others = λ c other. refl })
    go (Ended h a b c d ∷ events) legal local = absurd local
    go (Absorbed s ∷ events) legal local = absurd local
    go (Closing ∷ events) legal local = absurd local
    go (Done pid op said ∷ events) legal local =
        let inside = subst (λ q. q < process_count trace) local.0 legal.0.known in
        let lives = ap (λ q. among q (state_after trace known).ended) (sym local.0) ∙ legal.0.lives in
        follow (Done pid op said ∷ events)
        (tail_follows trace p (state_after trace known) (state_after trace (known ++ rest)) (Done pid op said ∷ events)
        (record {
          known = inside;
          lives = lives;
          counted = rw (history_sized trace known).done inside;
          counted_too = rw (history_sized trace (known ++ rest)).done inside;
          same = sym same;
        })
        local legal)

-- a local tail is as long as the operations in it
pub tail_length : (trace : Trace) (p : ℕ) (st : State) (tail : List Event) → AreLocal trace p st tail → length tail ≡ length (done_by p tail)
tail_length trace p st [] local = refl
tail_length trace p st (Done pid op said ∷ tail) local =
    ap suc (tail_length trace p (step trace st (Done pid op said)) tail local.2)
    ∙ ap (λ b. length (cond b (op ∷ done_by p tail) (done_by p tail))) (sym (eq-eqb pid.0 p local.0))
tail_length trace p st (Ended h a b c d ∷ tail) local = absurd local
tail_length trace p st (Absorbed s ∷ tail) local = absurd local
tail_length trace p st (Closing ∷ tail) local = absurd local
