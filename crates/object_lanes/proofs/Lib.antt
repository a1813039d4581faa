mod Grouped
