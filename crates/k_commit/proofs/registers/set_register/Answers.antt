use Rattle.std.proofs.Common.{◌≡◌, ◌∙◌, ap, sym, option_map, arith, Option, None}
use Rattle.k_types.specs.declared.names.Name.{Name}
use Rattle.k_types.specs.declared.names.Pid.{Pid}
use Rattle.k_types.specs.Agree.{book_shown_by}
use Rattle.k_types.specs.Names.{name_of}
use Rattle.k_book.specs.k_laws.BookChanges.{owner_in, with_pin_moved}
use Rattle.k_commit.proofs.Setting.{fits_segment, held_then, own_by_segment, pin_there_now, pins_alone, pins_have_room_now, pins_moved, pins_small_now, value_at_home}
use Rattle.k_commit.proofs.registers.set_register.Goals as goal

pub take_hold-requires : goal.take_hold-requires
take_hold-requires g c =
    let value = option_map name_of c.args.value in
    let can = c.requires in
    rw (c.pid-pid.ensures, can.pid) (
      value_at_home g.before c.args.cell.now c.args.book.now c.args.r.0 value can,
      (
        own_by_segment g.before can.have_met value,
        (
          fits_segment g.before can.have_met,
          (
            pins_have_room_now g.before c.args.cell.now c.args.book.now c.args.r.0 value can,
            pins_small_now g.before c.args.cell.now c.args.book.now c.args.r.0 value can,
          ),
        ),
      ),
    )

pub let_go-requires : goal.let_go-requires
let_go-requires g c =
    let value = option_map name_of c.args.value in
    let held = option_map name_of c.reg-held.result in
    let can = c.requires in
    rw (c.pid-pid.ensures, can.pid) (
      λ n is foreign.
          let was = pin_there_now g.before c.args.cell.now c.args.book.now c.args.r.0 value can n (sym c.reg-held.ensures ∙ is) foreign in
          let more = c.take_hold.ensures.more n in
          omega (arith, was, more),
      (own_by_segment g.before can.have_met held, fits_segment g.before can.have_met),
    )

pub returns : goal.returns
returns g c =
    let value = option_map name_of c.args.value in
    let b = c.args.book.now in
    let t = c.take_hold.new.book in
    let l = c.let_go.new.book in
    let can = c.requires in
    let own = owner_in g.before.trace (book_shown_by g.before.book.value) in
    let pid = c.pid-pid.ensures ∙ can.pid in
    let taken : book_shown_by t.value ≡ with_pin_moved own g.before.cell.pid.0 None value (book_shown_by b.value) =
    c.take_hold.ensures.moved ∙ ap (λ (p : Pid). with_pin_moved own p.0 None value (book_shown_by b.value)) pid in
    let gone : book_shown_by l.value ≡ with_pin_moved own g.before.cell.pid.0 (option_map name_of c.reg-held.result) None (book_shown_by t.value) =
    c.let_go.ensures.moved ∙ ap (λ (p : Pid). with_pin_moved own p.0 (option_map name_of c.reg-held.result) None (book_shown_by t.value)) pid in
    let held = c.reg-held.ensures ∙ held_then g.before c.args.cell.now b c.args.r.0 value can in
    record {
      cell_is = c.set_reg.ensures;
      book_is = pins_alone b t l c.take_hold.ensures.rest c.let_go.ensures.rest;
      moved = pins_moved b t l c.take_hold.ensures.rest c.let_go.ensures.rest own g.before.cell.pid.0 (option_map name_of c.reg-held.result) value taken gone
          ∙ ap (λ (h : Option Name). with_pin_moved own g.before.cell.pid.0 h value (book_shown_by b.value)) held;
    }
