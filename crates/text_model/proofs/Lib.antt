mod LineValues
