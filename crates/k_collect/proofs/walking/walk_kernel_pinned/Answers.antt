use Rattle.std.proofs.Common.{◌∙◌, ap, option_map, refl}
use Rattle.k_types.specs.declared.names.Heap.TheVariants.{Kernel}
use Rattle.k_types.specs.Names.{name_of}
use Rattle.k_commit.specs.k_book.Books.{book_pins}
use Rattle.k_commit.specs.k_cell.Holdings.{HoldingsValue}
use Rattle.k_collect.proofs.Grayed.{counted_here, graying_begins, graying_ends, graying_goes_on, walk_shorter}
use Rattle.k_collect.proofs.walking.walk_kernel_pinned.Goals as goal

pub loop-at-init : goal.loop-at-init
loop-at-init c = record {
  rest = refl;
  graying = graying_begins (book_pins c.args.book.now) Kernel c.first_pin-at.ensures.items c.args.kernel.now.value (option_map name_of c.first_pin-at.result)
      c.first_pin-at.ensures.first c.requires.begun;
}

pub next_pin-at-requires : goal.next_pin-at-requires
next_pin-at-requires c =
    counted_here (book_pins c.args.book.now) Kernel c.first_pin-at.ensures.items (name_of c.in-Some.target) (option_map name_of c.loop-at.at) (option_map name_of c.loop-at.at) c.args.kernel.now.value c.loop-at.kernel.value c.loop-at.kernel.value
    c.loop-at.invariant.graying (ap (option_map name_of) c.in-Some.is)

pub loop-at-smaller : goal.loop-at-smaller
loop-at-smaller c =
    walk_shorter (book_pins c.args.book.now) Kernel c.first_pin-at.ensures.items (name_of c.in-Some.target) (option_map name_of c.loop-at.at) (option_map name_of c.next_pin-at.result) c.args.kernel.now.value c.loop-at.kernel.value c.root.new.self.value
    c.loop-at.invariant.graying (ap (option_map name_of) c.in-Some.is) c.next_pin-at.ensures

pub loop-at-preserved : goal.loop-at-preserved
loop-at-preserved c = record {
  rest = c.root.ensures.rest ∙ ap (λ (x : HoldingsValue). record x { value = c.root.new.self.value }) c.loop-at.invariant.rest;
  graying =
      graying_goes_on (book_pins c.args.book.now) Kernel c.first_pin-at.ensures.items (name_of c.in-Some.target) (option_map name_of c.loop-at.at) (option_map name_of c.next_pin-at.result) c.args.kernel.now.value c.loop-at.kernel.value c.root.new.self.value
      c.loop-at.invariant.graying (ap (option_map name_of) c.in-Some.is) c.next_pin-at.ensures c.root.ensures.root;
}

pub returns-clause-gray : goal.returns-clause-gray
returns-clause-gray c =
    graying_ends (book_pins c.args.book.now) Kernel c.first_pin-at.ensures.items c.args.kernel.now.value c.loop-at.kernel.value (option_map name_of c.loop-at.at) c.loop-at.invariant.graying (ap (option_map name_of) c.in_default.is)
