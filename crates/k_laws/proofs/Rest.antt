-- A store changes objects and exit items alone, a put objects alone, a freeze phases alone, and the end of another process
-- registers, exit items, shares and who has ended alone.
use Rattle.std.proofs.Common.{◌≡◌, ℕ, cond, true, false, refl, ap, Option, Some, None}
use Rattle.k_types.specs.declared.names.Name.{Name}
use Rattle.k_types.specs.Names.{among, heap_eq}
use Rattle.k_types.specs.Trace.{Trace}
use Rattle.k_types.specs.State.{State, Refers}
use Rattle.k_types.specs.Owners.{owner_of}
use Rattle.k_types.specs.Updates.{write, add_exit, set_phase, keep_shares, clear_registers, end_process, turn_exits}
use Rattle.k_types.specs.Effects.{after_store, after_put, with_exit_of_store, after_freeze, after_end_of, after_kill}

link_rest : (trace : Trace) (st : State) (x : Name) (v : Option Name) → with_exit_of_store trace x v st ≡ record st { exits = (with_exit_of_store trace x v st).exits }
unfolding with_exit_of_store add_exit
link_rest trace st x None = refl
link_rest trace st x (Some y) =
    elim (heap_eq (owner_of trace st x.seg.0) (owner_of trace st y.seg.0)) as (λ b. cond b st (add_exit (owner_of trace st x.seg.0) y st) ≡ record st { exits = (cond b st (add_exit (owner_of trace st x.seg.0) y st)).exits }) [ true ↦ refl | false ↦ refl ]

pub store_rest : (trace : Trace) (st : State) (b : Option Name) (i : ℕ) (v : Option Name) →
    after_store trace b i v st ≡ record st { objects = (after_store trace b i v st).objects; exits = (after_store trace b i v st).exits }
unfolding after_store write
store_rest trace st None i v = refl
store_rest trace st (Some x) i v = ap (λ (s : State). record s { objects = (write x i (Refers v) (with_exit_of_store trace x v st)).objects }) (link_rest trace st x v)

pub put_rest : (st : State) (b : Option Name) (i n : ℕ) → after_put b i n st ≡ record st { objects = (after_put b i n st).objects }
unfolding after_put write
put_rest st None i n = refl
put_rest st (Some x) i n = refl

pub freeze_rest : (st : State) (s : ℕ) (root : Option Name) → after_freeze s root st ≡ record st { phases = (after_freeze s root st).phases }
unfolding after_freeze set_phase
freeze_rest st s None = refl
freeze_rest st s (Some root) = refl

pub kill_rest : (trace : Trace) (st : State) (q : ℕ) →
    after_kill trace q st ≡ record st { registers = (after_kill trace q st).registers; exits = (after_kill trace q st).exits; shares = (after_kill trace q st).shares; ended = (after_kill trace q st).ended }
unfolding after_kill after_end_of end_process clear_registers keep_shares turn_exits
kill_rest trace st q =
    elim (among q st.ended) as (λ b. cond b st (after_end_of trace q st) ≡ record st {
      registers = (cond b st (after_end_of trace q st)).registers;
      exits = (cond b st (after_end_of trace q st)).exits;
      shares = (cond b st (after_end_of trace q st)).shares;
      ended = (cond b st (after_end_of trace q st)).ended;
    })
    [ true ↦ refl | false ↦ refl ]
