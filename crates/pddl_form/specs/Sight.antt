-- What the code's words, lists and tables are to the reading.
use Rattle.std.specs.Prelude.{ℕ, List, map}
use Rattle.std.specs.Option.{option_map}
use Rattle.pddl_form.specs.Trees.{Named, Headed}
use Rattle.pddl_form.specs.Groups.{Group, Grouped, groups}
use Rattle.pddl_form.specs.Things.{Table}
use Rattle.pddl_form.specs.Terms.{Scope}
use Rattle.pddl_form.specs.declared.words.Named as code_named
use Rattle.pddl_form.specs.declared.words.Headed as code_headed
use Rattle.pddl_form.specs.declared.groups.Group as code_group
use Rattle.pddl_form.specs.declared.groups.Groups.{Groups}
use Rattle.pddl_form.specs.declared.terms.Scope as code_scope
use Rattle.pddl_form.specs.declared.table.Table as code_table

abbrev pub named_of : code_named.Named → Named
named_of w = (w.place, w.text.now)

abbrev pub headed_of : code_headed.Headed → Headed
headed_of h = record { place = h.place; head = named_of h.head; items = h.items.now }

abbrev pub group_of : code_group.Group → Group
group_of g = record { names = map named_of g.names.items; kind = option_map named_of g.kind }

-- the groups that are left
abbrev pub left : Groups → List Grouped
left g = groups g.variables g.place g.items.now

abbrev pub table_of : code_table.Table → Table
table_of t = record { names = t.names; numbers = t.numbers.items }

abbrev pub scope_of : code_scope.Scope → Scope
scope_of s = record { params = s.params.now; objects = s.objects.now }
