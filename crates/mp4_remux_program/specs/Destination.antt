-- The place to which a command writes, and its message if it writes nothing.
use Rattle.std.specs.Prelude.{ℕ, Bool, ◌==◌, ◌&&◌, List, ◌++◌, None, Some, Result, Ok, Err, codes, if◌then◌else◌}
use Rattle.std.specs.Fmt.{decimal}
use Rattle.std.specs.declared.option.Option.{Option}
use Rattle.mp4_remux_program.specs.declared.destination.Destination.{Destination}
use Rattle.mp4_remux_program.specs.declared.destination.Destination.TheVariants as destinations
use Rattle.mp4_remux_program.specs.declared.destination.Node.{Node}
use Rattle.mp4_remux_program.specs.declared.destination.NodeId.{NodeId}
use Rattle.mp4_remux_program.specs.declared.destination.NodeKind.{NodeKind}
use Rattle.mp4_remux_program.specs.declared.destination.NodeKind.TheVariants as kinds
use Rattle.mp4_remux_program.specs.declared.destination.Obstacle.{Obstacle}
use Rattle.mp4_remux_program.specs.declared.destination.Obstacle.TheVariants as obstacles

-- both are the same node of the system, as hard links of one file are
abbrev pub is_same : NodeId → NodeId → Bool
is_same a b = (a.device == b.device) && (a.inode == b.inode)

-- the place to write if a node of this kind is found: a regular file that is not the one that is read
abbrev pub destination_at : Bool → Bool → NodeKind → Result Destination Obstacle
destination_at is_source is_link kinds.File =
    if is_source then Err obstacles.Source
    else Ok (if is_link then destinations.Linked else destinations.Named)
destination_at is_source is_link kind = Err (obstacles.NotFile kind)

-- the place to write, by the node to which a name leads; a link that leads nowhere is not written through
abbrev pub destination_of : NodeId → Bool → Option Node → Result Destination Obstacle
destination_of source is_link None = if is_link then Err obstacles.Dangling else Ok destinations.Named
destination_of source is_link (Some node) = destination_at (is_same node.id source) is_link node.kind

-- the name of the unfinished file with a number
abbrev pub partial_name : ℕ → List ℕ
partial_name number = codes ".mp4remux-" ++ decimal number ++ codes ".partial"

-- the text of a kind
abbrev pub kind_text : NodeKind → List ℕ
kind_text kinds.File = codes "regular file"
kind_text kinds.Folder = codes "directory"
kind_text kinds.Fifo = codes "FIFO"
kind_text kinds.Socket = codes "socket"
kind_text kinds.CharDevice = codes "character device"
kind_text kinds.BlockDevice = codes "block device"
kind_text kinds.Other = codes "special file"

-- the text of an obstacle, which names the node that is found and what is needed
abbrev pub obstacle_text : Obstacle → List ℕ
obstacle_text obstacles.Source = codes "this is the file that is read; OUT must be another file"
obstacle_text obstacles.Dangling =
    codes "this is a symbolic link to a file that does not exist; OUT must be a regular file or a new name"
obstacle_text (obstacles.NotFile kind) =
    codes "this is a " ++ kind_text kind ++ codes "; OUT must be a regular file or a new name"
