use Rattle.std.proofs.Common.{◌≡◌, ℕ, ◌-◌, ◌+◌, Bool, nat_lt, find, ap, subst, sym, ◌∙◌, length, arith}
use Rattle.k_types.specs.declared.setup.LimitRow.{LimitRow}
use Rattle.k_types.specs.Limits.{limits_in, max_of, path_within, use_of}
use Rattle.k_types.specs.Trace.{row_of}
use Rattle.k_state.specs.Machines.{IsPlain, Machine}
use Rattle.k_state.proofs.Paths.{parent_known, path_hard, path_here, path_none, path_root, path_up}
use Rattle.k_state.proofs.lists.PlainLists.full_limit.Goals as goal
use Rattle.k_laws.proofs.Maxima.{length_in}

-- so many bytes more do not fit at the limit
abbrev is_full : Machine → ℕ → ℕ → Bool
is_full m size q = nat_lt (max_of (limits_in m.setup m.state) q) (use_of m.setup m.state q + size)

-- what the code tests is that
tested : (m : Machine) (size at : ℕ) (row : LimitRow) (result : Bool) → row ≡ row_of (limits_in m.setup m.state) at →
    result ≡ nat_lt row.max (use_of m.setup m.state at + size) → is_full m size at ≡ result
tested m size at row result is test =
    ap (λ (r : LimitRow). nat_lt r.max (use_of m.setup m.state at + size)) (sym is) ∙ sym test

pub loop-init : goal.loop-init
loop-init c =
    let m = c.args.self.now in
    let rows = limits_in m.setup m.state in
    let same = length_in m.setup.limits m.state.maxima in
    let shown = ap (λ (n : Machine). length n.setup.limits) c.self.view_is in
    let all : c.len-end.result ≡ length rows = omega arith in
    let begin : c.len-end.result - 0 ≡ length rows = omega arith in
    record { known = c.requires; all = all; found = ap (λ n. find (is_full m c.args.size) (path_within rows n c.args.limit.0)) begin }

pub returns-then-is_full : goal.returns-then-is_full
returns-then-is_full c =
    let m = c.args.self.now in
    let test = tested m c.args.size c.loop.at.0 c.row-row.result c.is_full.result c.row-row.ensures.row (c.is_full.ensures (use_of m.setup m.state c.loop.at.0) (c.uses-uses.ensures c.loop.at.0 c.loop.invariant.known)) in
    record {
      full = sym (path_here (limits_in m.setup m.state) (is_full m c.args.size) (c.len-end.result - c.loop.counter) c.loop.at.0 (omega arith) (test ∙ c.if-is_full.true))
          ∙ c.loop.invariant.found;
      known = c.loop.invariant.known;
    }

pub returns-then-row : goal.returns-then-row
returns-then-row c =
    let m = c.args.self.now in
    let test = tested m c.args.size c.loop.at.0 c.row-row.result c.is_full.result c.row-row.ensures.row (c.is_full.ensures (use_of m.setup m.state c.loop.at.0) (c.uses-uses.ensures c.loop.at.0 c.loop.invariant.known)) in
    record {
      full = sym (path_hard (limits_in m.setup m.state) (is_full m c.args.size) (c.len-end.result - c.loop.counter) c.loop.at.0 c.row-row.result (omega arith) (test ∙ c.if-is_full.false) c.row-row.ensures.row c.if-row.true)
          ∙ c.loop.invariant.found;
      known = tt;
    }

pub returns-in-None : goal.returns-in-None
returns-in-None c =
    let m = c.args.self.now in
    let test = tested m c.args.size c.loop.at.0 c.row-row.result c.is_full.result c.row-row.ensures.row (c.is_full.ensures (use_of m.setup m.state c.loop.at.0) (c.uses-uses.ensures c.loop.at.0 c.loop.invariant.known)) in
    record {
      full = sym (path_root (limits_in m.setup m.state) (is_full m c.args.size) (c.len-end.result - c.loop.counter) c.loop.at.0 c.row-row.result (omega arith) (test ∙ c.if-is_full.false) c.row-row.ensures.row c.in-None.is)
          ∙ c.loop.invariant.found;
      known = tt;
    }

pub loop-preserved : goal.loop-preserved
loop-preserved c =
    let m = c.args.self.now in
    let rows = limits_in m.setup m.state in
    let plain : IsPlain m = subst IsPlain c.self.view_is c.self.invariant.plain in
    let test = tested m c.args.size c.loop.at.0 c.row-row.result c.is_full.result c.row-row.ensures.row (c.is_full.ensures (use_of m.setup m.state c.loop.at.0) (c.uses-uses.ensures c.loop.at.0 c.loop.invariant.known)) in
    let up = path_up rows (is_full m c.args.size) (c.len-end.result - c.loop.counter) c.loop.at.0 c.row-row.result c.in-Some.parent (omega arith) (test ∙ c.if-is_full.false) c.row-row.ensures.row c.if-row.false c.in-Some.is in
    let next : c.len-end.result - (c.loop.counter + 1) ≡ c.len-end.result - c.loop.counter - 1 = omega arith in
    record {
      known = parent_known m.setup.limits m.state.maxima c.loop.at.0 c.row-row.result c.in-Some.parent plain.setup.limits.tree c.loop.invariant.known plain.sized.maxima c.row-row.ensures.row c.in-Some.is;
      all = c.loop.invariant.all;
      found = ap (λ n. find (is_full m c.args.size) (path_within rows n c.in-Some.parent.0)) next ∙ sym up ∙ c.loop.invariant.found;
    }

pub returns : goal.returns
returns c =
    let m = c.args.self.now in
    let none : c.len-end.result - c.loop.counter ≡ 0 = omega arith in
    record {
      full = sym (path_none (limits_in m.setup m.state) (is_full m c.args.size) (c.len-end.result - c.loop.counter) c.loop.at.0 none) ∙ c.loop.invariant.found;
      known = tt;
    }
