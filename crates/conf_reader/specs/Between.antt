-- Open files between two calls.
use Rattle.std.specs.Prelude.{Bool, true, not, ◌&&◌, ◌||◌, nat_le, is_some, is_none, if◌then◌else◌, length}
use Rattle.std.specs.List.{list_all}
use Rattle.conf_rules.specs.Texts.{is_empty_list}
use Rattle.conf_rules.specs.Sources.{depth_limit}
use Rattle.conf_reader.specs.declared.lines.Lines.{Lines}
use Rattle.conf_reader.specs.declared.stack.OpenFiles.{OpenFiles}
use Rattle.conf_reader.specs.Left.{stack, is_expanded, is_counted}

-- Whether files are open as they are between two calls: at most 17, of which each gave a line, and
-- of which at most the last one still has paths to find.
abbrev pub is_between : OpenFiles → Bool
is_between o =
    nat_le (length o.below.items) depth_limit
    && (not o.fresh && ((is_some o.top || is_empty_list o.below.items)
    && (list_all is_expanded o.below.items && list_all is_counted (stack o))))

-- whether no file is open, and none is opened any more that no line includes
abbrev pub no_file_left : Lines → Bool
no_file_left r =
    is_empty_list r.open_files.below.items
    && (is_none r.open_files.top && nat_le (length r.firsts.items) r.next_first)

-- whether nothing is left where a reader is over
abbrev pub ends_where : Bool → Lines → Bool
ends_where over r = if over then no_file_left r else true
